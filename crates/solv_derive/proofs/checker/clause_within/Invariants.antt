use Rattle.std.proofs.Common.{◌≡◌, drop}
use Rattle.solv_pool.specs.Prelude.{is_over}
use Rattle.solv_derive.proofs.checker.clause_within.Given as goal

abbrev pub invariant-loop-lit : goal.invariant-loop-lit
invariant-loop-lit l = is_over l.count (drop l.lit-index l.clause) ≡ is_over l.count l.clause
