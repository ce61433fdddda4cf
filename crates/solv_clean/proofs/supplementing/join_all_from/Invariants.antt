use Rattle.std.proofs.Common.{take}
use Rattle.solv_clean.specs.Inner.Joining.{Adds, from_member}
use Rattle.solv_clean.proofs.supplementing.join_all_from.Given as goal

abbrev pub invariant-loop-from : goal.invariant-loop-from
invariant-loop-from l = Adds (from_member l.in_set l.to) (take l.from-index l.packs) l.initial.graph l.graph
