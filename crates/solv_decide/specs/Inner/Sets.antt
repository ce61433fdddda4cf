-- The set of a trail.
use Rattle.std.specs.Prelude.{ℕ, zero, suc, pos, negsuc, List, [], ◌∷◌}
use Rattle.solv_core.specs.declared.verdicts.Event.{Event}
use Rattle.solv_core.specs.declared.verdicts.Event.TheVariants as event

-- the packages that events say to be in, in the order of the events
abbrev pub pack_of : Event → List ℕ
pack_of (event.Known (pos zero)) = []
pack_of (event.Known (pos (suc p))) = suc p ∷ []
pack_of (event.Known (negsuc k)) = []
pack_of (event.Took q p) = p ∷ []
