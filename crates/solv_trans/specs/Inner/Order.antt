-- The greatest so far.
use Rattle.std.specs.Prelude.{ℕ, Bool, List, Option, Some, find, fold, not, if◌then◌else◌}
use Rattle.std.specs.List.{list_any}
use Rattle.std.specs.Option.{option_map_or}
use Rattle.std.specs.Ordering.{is_gt}
use Rattle.solv_pool.specs.Best.{compare_evrs}
use Rattle.solv_pool.specs.Prelude.{Catalog}

module _ (catalog : Catalog) where
  -- the first of a list with the greatest EVR: no other has a greater one
  abbrev pub greatest : List ℕ → Option ℕ
  greatest list = find (λ q. not (list_any (λ r. is_gt (compare_evrs catalog r q)) list)) list

  -- q, where there is none before or q has the greater EVR; else the one before
  abbrev pub greater_of : Option ℕ → ℕ → ℕ
  greater_of best q = option_map_or (λ b. if is_gt (compare_evrs catalog q b) then q else b) best q

  -- the greatest of those of a list that pass a test, and of one before
  abbrev pub greatest_from : (ℕ → Bool) → Option ℕ → List ℕ → Option ℕ
  greatest_from test best list = fold (λ o q. if test q then Some (greater_of o q) else o) best list
