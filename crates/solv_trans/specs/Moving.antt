-- Which packages come and which go. A set of packages is a test on numbers.
use Rattle.std.specs.Prelude.{ℕ, Bool, not, ◌&&◌, ◌||◌, length}
use Rattle.std.specs.List.{list_any}
use Rattle.solv_pool.specs.Catalog.{Catalog, packages, is_installed, same_name}
use Rattle.solv_pool.specs.TaskBelonging.{is_pack}

module _ (catalog : Catalog) (set : ℕ → Bool) where
  -- a package of the set that is not installed
  abbrev pub comes : ℕ → Bool
  comes q = is_pack (length catalog.universe.packages) q && (set q && not (is_installed catalog q))

  -- an installed package outside the set, of whose name none comes: it is erased, or obsoleted by what is in the set
  abbrev pub goes : ℕ → Bool
  goes p = is_installed catalog p && (not (set p) && not (list_any (λ q. comes q && same_name catalog p q) (packages catalog)))

  -- what has a place in an order
  abbrev pub is_part : ℕ → Bool
  is_part p = comes p || goes p
