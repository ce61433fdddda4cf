use Rattle.std.proofs.Common.{◌≡◌, Some, rules}
use Rattle.solv_pool.specs.Prelude.{catalog_of, hard_rules}
use Rattle.solv_rules.specs.Books.{first_fault}
use Rattle.solv_solved.specs.Solvings.{answered}
use Rattle.solv_solved.proofs.WhatIsHeld.{passes_by}
use Rattle.solv_solved.proofs.solving.held_for.Goals as goal

pub solved-requires-clause-found : goal.solved-requires-clause-found
solved-requires-clause-found c = record {
  of_task = c.in-Ok.ensures.index;
  good = c.in-Ok.ensures.good;
  direct = c.in-Ok.ensures.direct;
  rules = c.in-Ok.ensures.rules;
  proved = c.in-Ok.ensures.proved;
  fits = c.in-Ok.ensures.fits;
}

pub returns-in-Ok : goal.returns-in-Ok
returns-in-Ok c = answered c.solved.result c.solved.ensures

pub returns : goal.returns
returns c =
    let script = c.args.script in
    let passed : first_fault (catalog_of script.task) 0 (hard_rules script.task) ≡ Some c.in-Err.fault = search rules in
    passes_by c.args.budget script c.in-Err.fault c.in_ok-limit_due-in-Err.field-0 passed c.in_ok-limit_due-in-Err.ensures
