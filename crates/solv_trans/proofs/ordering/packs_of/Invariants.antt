use Rattle.std.proofs.Common.{◌≡◌, take}
use Rattle.solv_trans.specs.Inner.Parting.{parts_at}
use Rattle.solv_trans.proofs.ordering.packs_of.Given as goal

abbrev pub invariant-loop-place : goal.invariant-loop-place
invariant-loop-place l = l.packs.items ≡ parts_at l.parts (take l.place-index l.places)
