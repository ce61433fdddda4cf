use Rattle.std.proofs.Common.{take}
use Rattle.solv_trans.specs.Inner.Parting.{Puts}
use Rattle.solv_trans.proofs.parting.put_all.Given as goal

abbrev pub invariant-loop-link : goal.invariant-loop-link
invariant-loop-link l = Puts l.parts (take l.link-index l.links) l.initial.edges l.edges
