use Rattle.std.proofs.Common.{◌≡◌, drop}
use Rattle.solv_pool.specs.Prelude.{clause_true}
use Rattle.solv_core.specs.Inner.Meeting.{set_by}
use Rattle.solv_core.proofs.meeting.is_met.Given as goal

abbrev pub invariant-loop-lit : goal.invariant-loop-lit
invariant-loop-lit l = clause_true (set_by l.inside) (drop l.lit-index l.clause) ≡ clause_true (set_by l.inside) l.clause
