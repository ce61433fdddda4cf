use Rattle.std.proofs.Common.{◌≡◌, drop}
use Rattle.solv_pool.specs.Prelude.{all_true}
use Rattle.solv_trail.specs.Asked.{enabled_clauses}
use Rattle.solv_core.specs.Inner.Meeting.{set_by}
use Rattle.solv_core.proofs.meeting.are_met.Given as goal

abbrev pub invariant-loop-clause : goal.invariant-loop-clause
invariant-loop-clause l = all_true (set_by l.inside) (enabled_clauses l.enabled (drop l.clause l.book.rules) (drop l.clause l.owners)) ≡ all_true (set_by l.inside) (enabled_clauses l.enabled l.book.rules l.owners)
