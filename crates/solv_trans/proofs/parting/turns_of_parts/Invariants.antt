use Rattle.std.proofs.Common.{◌≡◌, take}
use Rattle.solv_trans.specs.Inner.Parting.{turns_at}
use Rattle.solv_trans.proofs.parting.turns_of_parts.Given as goal

abbrev pub invariant-loop-pack : goal.invariant-loop-pack
invariant-loop-pack l = l.own.items ≡ turns_at l.turns (take l.pack-index l.parts)
