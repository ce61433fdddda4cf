-- What is known of relations in a set, for inner contracts alone.
use Rattle.std.specs.Prelude.{◌≡◌, ℕ, Bool, List, Option, Some, None, slice_index_or}
use Rattle.solv_pool.specs.Prelude.{Catalog, dependency, holds}
use Rattle.solv_clean.specs.Inner.Tables.{is_marked}

-- what is recorded of a relation is whether it holds
abbrev pub AreKnown : Catalog → List Bool → List (Option Bool) → Type 0
AreKnown catalog may known = (id : ℕ) (b : Bool) → slice_index_or known id None ≡ Some b → b ≡ holds catalog (dependency catalog id) (is_marked may)
