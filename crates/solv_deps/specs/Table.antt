-- The table of places: which dependencies may stand where.
use Rattle.std.specs.Prelude.{Bool, true, false}
use Rattle.solv_base.specs.Dependency.{Dep, one}
use Rattle.solv_base.specs.Places.{fits_place}
use Rattle.solv_deps.specs.declared.place.Place.{Place}
use Rattle.solv_deps.specs.declared.place.Place.TheVariants.{Requires, Conflicts, Plain}

-- a simple or a versioned dependency
abbrev pub is_capability : {N : Type 0} → Dep N → Bool
is_capability (one c) = true
is_capability d = false

-- what may stand at a place: where something is required any form but that with `<UNLESS>`; where something conflicts any but that with `<IF>`; what provides or
-- obsoletes is no namespace and has no operator
abbrev pub stands_at : {N : Type 0} → Place → Dep N → Bool
stands_at Requires d = fits_place true d
stands_at Conflicts d = fits_place false d
stands_at Plain d = is_capability d
