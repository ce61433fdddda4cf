use Rattle.std.proofs.Common.{◌≡◌, ◌++◌, drop}
use Rattle.std.specs.Prelude.{flat_map}
use Rattle.solv_decide.specs.Inner.Sets.{pack_of}
use Rattle.solv_decide.proofs.sets.packs_in.Given as goal

abbrev pub invariant-loop-event : goal.invariant-loop-event
invariant-loop-event l = l.packs.items ++ flat_map pack_of (drop l.event-index l.events) ≡ flat_map pack_of l.events
