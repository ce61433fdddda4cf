-- Tables by which it is seen that nothing is left out which something asks for, for inner contracts alone.
use Rattle.std.specs.Prelude.{◌≡◌, ℕ, Bool, true, false, not, ◌&&◌, ◌||◌, List, length}
use Rattle.std.specs.List.{list_any}
use Rattle.solv_pool.specs.Prelude.{package_wise, is_among, Catalog, packages, dependency, marked}
use Rattle.solv_pool.specs.Needs.{serves, serves_package}
use Rattle.solv_pool.specs.declared.packages.Need.{Need}
use Rattle.solv_clean.specs.Inner.Tables.{is_marked}
use Rattle.solv_leaving.specs.Inner.Leaving.{is_plainly_met, touches, touches_package}

-- nothing for which one of these asks is left out
abbrev pub AllIn : {X : Type 0} → List Bool → (X → ℕ → Bool) → List X → Type 0
AllIn left asks xs = (q : ℕ) → list_any (λ x. asks x q) xs ≡ true → marked left q ≡ false

module _ (catalog : Catalog) where
  -- q serves a dependency, or touches it where it is not plainly met
  abbrev pub asks_for : ℕ → ℕ → Bool
  asks_for id q = serves catalog q (dependency catalog id) || (not (is_plainly_met (dependency catalog id)) && touches catalog q (dependency catalog id))

  abbrev pub need_asks_for : Need → ℕ → Bool
  need_asks_for need q = asks_for need.dep q

  -- q touches a conflict that no package meets alone
  abbrev pub conflicts_over : ℕ → ℕ → Bool
  conflicts_over id q = not (package_wise (dependency catalog id)) && touches catalog q (dependency catalog id)

  module _ (left : List Bool) where
    -- nothing that serves a dependency with a mark is left out
    abbrev pub AreServedIn : List Bool → Type 0
    AreServedIn table = (id q : ℕ) → is_marked table id ≡ true → serves catalog q (dependency catalog id) ≡ true → marked left q ≡ false

    -- nothing that touches it
    abbrev pub AreTouchedIn : List Bool → Type 0
    AreTouchedIn table = (id q : ℕ) → is_marked table id ≡ true → touches catalog q (dependency catalog id) ≡ true → marked left q ≡ false

    -- nothing is left out that a package asks for
    abbrev pub IsPackageIn : ℕ → Type 0
    IsPackageIn p = (q : ℕ) → (serves_package catalog q p || touches_package catalog q p) ≡ true → marked left q ≡ false

    -- the table is as long as that of what starts, and nothing is left out that starts or that a package asks for which is not left out
    pub record AreClosed (starts : List Bool) : Type 0 where
      pub size : length left ≡ length starts
      pub system : marked left 0 ≡ false
      pub started : (q : ℕ) → is_marked starts q ≡ true → marked left q ≡ false
      pub each : (p : ℕ) → is_among (packages catalog) p ≡ true → marked left p ≡ false → IsPackageIn p
