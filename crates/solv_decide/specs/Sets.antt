-- The set of a trail.
use Rattle.std.specs.Prelude.{◌≡◌, ℕ, true, List, ◌∷◌, filter}
use Rattle.std.specs.List.{range_with_len}
use Rattle.solv_pool.specs.Propagation.{is_fact}
use Rattle.solv_pool.specs.Range.{is_over}
use Rattle.solv_trail.specs.Asked.{set_of}
use Rattle.solv_core.specs.GoodTrails.{facts_of}
use Rattle.solv_core.specs.declared.verdicts.Event.{Event}

-- the system, and the packages that are known in or taken, ascending
abbrev pub IsSetOf : List Event → List ℕ → Type 0
IsSetOf events packs = (count : ℕ) → is_over count (facts_of events) ≡ true → packs ≡ filter (set_of (is_fact (facts_of events))) (0 ∷ range_with_len 1 count)
