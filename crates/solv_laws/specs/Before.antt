-- What is there of a requirement when a package is installed.
use Rattle.std.specs.Prelude.{◌≡◌, ◌<◌, ◌+◌, ℕ, Bool, true, List, length, slice_index, Some, Contains, ◌⊎◌, if◌then◌else◌}
use Rattle.solv_base.specs.Dependency.{Dep}
use Rattle.solv_graph.specs.Walks.{InOneClass}
use Rattle.solv_pool.specs.Catalog.{Catalog, package_at, dependency}
use Rattle.solv_pool.specs.Holding.{package_meets, member_meets}
use Rattle.solv_pool.specs.Parts.{parts}
use Rattle.solv_pool.specs.declared.packages.Package.{Package}
use Rattle.solv_pool.specs.declared.packages.Need.{Need}
use Rattle.solv_trans.specs.Moving.{comes, goes, is_part}
use Rattle.solv_trans.specs.Edges.{is_met_already, edge, pre_edge}
use Rattle.solv_trans.specs.Orders.{IsOrdered}
use Rattle.solv_trans.specs.declared.ordering.Ordered.{Ordered}

-- q stands before p in a list
pub record StandsBefore (list : List ℕ) (q p : ℕ) : Type 0 where
  pub place : ℕ
  pub later : ℕ
  pub rises : place < later
  pub within : later < length list
  pub first : slice_index list place ≡ q
  pub second : slice_index list later ≡ p

module _ (catalog : Catalog) (set : ℕ → Bool) (ordered : Ordered) where
  -- requirements lead from q to p and back: pre-requirements alone, where the requirement at hand is one
  abbrev pub AreInOneCycle : Need → ℕ → ℕ → Type 0
  AreInOneCycle need q p = InOneClass (if need.pre then pre_edge catalog set else edge catalog set) q p

  -- each package that comes and meets the part stands before p, or is in one cycle with it
  abbrev pub ComeFirst : ℕ → Need → Dep ℕ → Type 0
  ComeFirst p need part = (q : ℕ) → comes catalog set q ≡ true → package_meets catalog part q ≡ true → StandsBefore ordered.parts q p ⊎ AreInOneCycle need q p

  -- when p is installed the part is there: p itself, the system or an installed package that stays meets it; or some package that comes does, and each that does comes first
  pub data IsThere (p : ℕ) (need : Need) (part : Dep ℕ) : Type 0 where
    already : is_met_already catalog set p part ≡ true → IsThere p need part
    before : (q : ℕ) → comes catalog set q ≡ true → package_meets catalog part q ≡ true → ComeFirst p need part → IsThere p need part

-- in a good order, each part of a requirement of a package that comes is there when the package is installed, where some member of the set meets it
abbrev pub RequiredIsThere : Type 0
RequiredIsThere = (catalog : Catalog) (set : ℕ → Bool) (ordered : Ordered) (p : ℕ) (a : Package) (need : Need) (part : Dep ℕ)
    → IsOrdered (length catalog.universe.packages + 1) (is_part catalog set) (goes catalog set) (edge catalog set) (pre_edge catalog set) ordered
    → comes catalog set p ≡ true → package_at catalog p ≡ Some a → Contains a.requires_ need → Contains (parts (dependency catalog need.dep)) part
    → member_meets catalog part set ≡ true → IsThere catalog set ordered p need part
