use Rattle.std.proofs.Common.{take, ℕ, Bool}
use Rattle.solv_pool.specs.Prelude.{catalog_of}
use Rattle.solv_trans.specs.Inner.Joining.{AreTurns, Joins, from_going}
use Rattle.solv_trans.proofs.edges.join_going.Given as goal

abbrev pub invariant-loop-need : goal.invariant-loop-need
invariant-loop-need l = (set : ℕ → Bool) → AreTurns (catalog_of l.task) set l.turns → Joins (from_going (catalog_of l.task) set l.pack) (take l.need-index l.need-items) l.initial.links.items l.links.items
