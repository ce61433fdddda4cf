-- What propagation does to a trail.
use Rattle.std.specs.Prelude.{ℕ, Bool, true, false, List, slice_get, slice_index_or, Some, None}

-- a rule with an owner is in use where the owner is enabled; the learnt rules have none
abbrev pub in_use : List ℕ → List Bool → ℕ → Bool
in_use owners enabled rule = elim (slice_get owners rule) [ None ↦ true | Some owner ↦ slice_index_or enabled owner false ]
