-- Which parts of a transaction come before which.
use Rattle.std.specs.Prelude.{ℕ, Bool, true, not, ◌&&◌, ◌||◌, ◌==◌}
use Rattle.std.specs.List.{list_any}
use Rattle.solv_pool.specs.Prelude.{Dep}
use Rattle.solv_pool.specs.Words.{passes}
use Rattle.solv_pool.specs.Catalog.{Catalog, packages, package_at, dependency, is_installed}
use Rattle.solv_pool.specs.Holding.{package_meets}
use Rattle.solv_pool.specs.Parts.{parts}
use Rattle.solv_pool.specs.Needs.{serves}
use Rattle.solv_pool.specs.declared.packages.Need.{Need}
use Rattle.solv_trans.specs.Moving.{comes, goes}

module _ (catalog : Catalog) (set : ℕ → Bool) where
  -- p itself, the system or an installed package that stays meets it
  abbrev pub is_met_already : ℕ → Dep ℕ → Bool
  is_met_already p d = package_meets catalog d p || (package_meets catalog d 0 || list_any (λ q. (is_installed catalog q && set q) && package_meets catalog d q) (packages catalog))

  -- q meets a part of the dependency that is not met already where p asks for it
  abbrev pub brings : ℕ → ℕ → Dep ℕ → Bool
  brings q p d = list_any (λ part. package_meets catalog part q && not (is_met_already p part)) (parts d)

  -- one of these requirements of p asks for it
  abbrev pub requires_some : (Need → Bool) → (Dep ℕ → Bool) → ℕ → Bool
  requires_some these asks p = passes (package_at catalog p) (λ a. list_any (λ need. these need && asks (dependency catalog need.dep)) a.requires_)

  -- a comes before b, by one of these requirements: both come, and a brings what b requires; or both go, and b serves what a requires
  abbrev pub edge_by : (Need → Bool) → ℕ → ℕ → Bool
  edge_by these a b = not (a == b) && ((comes catalog set a && (comes catalog set b && requires_some these (brings a b) b))
      || (goes catalog set a && (goes catalog set b && requires_some these (serves catalog b) a)))

  -- by any requirement
  abbrev pub edge : ℕ → ℕ → Bool
  edge a b = edge_by (λ need. true) a b

  -- by a pre-requirement
  abbrev pub pre_edge : ℕ → ℕ → Bool
  pre_edge a b = edge_by (λ need. need.pre) a b
