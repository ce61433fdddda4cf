use Rattle.solv_solved.proofs.Built.{limit_found}
use Rattle.solv_solved.proofs.building.found_of.Goals as goal

pub returns-in-Ok : goal.returns-in-Ok
returns-in-Ok c = record {
  of_task = c.in-Ok.ensures.index;
  good = c.in-Ok.ensures.good;
  direct = c.in-Ok.ensures.direct;
  rules = c.in-Ok.ensures.rules;
  proved = c.in-Ok.ensures.proved;
  fits = c.in-Ok.ensures.fits;
}

pub returns-in_ok-said-in-Err : goal.returns-in_ok-said-in-Err
returns-in_ok-said-in-Err c = limit_found c.args.task.now c.in-Err.limit _ c.in-Err.ensures.fault c.in_ok-said-in-Err.ensures
