-- Steps on the way to the lines of a transaction.
use Rattle.std.specs.Prelude.{ℕ, Bool, not, ◌&&◌, ◌==◌, List, filter, nat_eq}
use Rattle.std.specs.List.{list_any}
use Rattle.std.specs.Option.{option_eq}
use Rattle.std.specs.Ordering.{is_gt}
use Rattle.solv_pool.specs.Best.{compare_evrs}
use Rattle.solv_pool.specs.Prelude.{Catalog, packages, is_installed, same_name}
use Rattle.solv_pool.specs.declared.packages.Package.{Package}
use Rattle.solv_trans.specs.Changes.{change_by, lines_of_leaving}
use Rattle.solv_trans.specs.Effects.{is_brought}
use Rattle.solv_trans.specs.Moving.{comes}
use Rattle.solv_trans.specs.declared.kinds.Change.{Change}

-- of one architecture and one vendor; both may have no vendor
abbrev pub is_same_build : Package → Package → Bool
is_same_build a b = (a.arch == b.arch) && option_eq nat_eq a.vendor b.vendor

module _ (catalog : Catalog) where
  -- some package of a list has a greater EVR than q
  abbrev pub is_exceeded : List ℕ → ℕ → Bool
  is_exceeded list q = list_any (λ r. is_gt (compare_evrs catalog r q)) list

  -- q comes for p, by the order of their EVRs
  abbrev pub change_to : ℕ → ℕ → Change
  change_to p q = change_by catalog p q (compare_evrs catalog q p)

module _ (catalog : Catalog) (set : ℕ → Bool) where
  -- p is installed and not in the set
  abbrev pub leaves : ℕ → Bool
  leaves p = is_installed catalog p && not (set p)

  -- the packages of p's name that come, ascending
  abbrev pub successors : ℕ → List ℕ
  successors p = filter (λ q. comes catalog set q && same_name catalog p q) (packages catalog)

  -- q comes, and is the partner of no package that leaves
  abbrev pub is_installed_anew : ℕ → Bool
  is_installed_anew q = comes catalog set q && not (is_brought (lines_of_leaving catalog set) q)
