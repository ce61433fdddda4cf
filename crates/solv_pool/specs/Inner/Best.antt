-- Which package of a name beats which, and the best of a list.
use Rattle.std.specs.Prelude.{ℕ, Bool, ◌&&◌, List}
use Rattle.std.specs.List.{list_any}
use Rattle.solv_pool.specs.Catalog.{Catalog}
use Rattle.solv_pool.specs.Installable.{is_installable}
use Rattle.solv_pool.specs.Best.{beats}

-- some installable package of the list beats b
abbrev pub is_beaten : Catalog → List ℕ → ℕ → Bool
is_beaten catalog list b = list_any (λ a. is_installable catalog a && beats catalog list a b) list
