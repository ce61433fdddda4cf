use Rattle.std.proofs.Common.{take}
use Rattle.solv_trans.specs.Inner.Joining.{Joins, to_one}
use Rattle.solv_trans.proofs.edges.join_all_to.Given as goal

abbrev pub invariant-loop-other : goal.invariant-loop-other
invariant-loop-other l = Joins (to_one l.turns l.pack l.need) (take l.other-index l.providers) l.initial.links.items l.links.items
