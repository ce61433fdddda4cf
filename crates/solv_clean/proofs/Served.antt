-- What serves a dependency, by the lists of the index.
use Rattle.std.proofs.Common.{◌≡◌, ℕ, zero, suc, ◌+◌, ◌-◌, ◌<◌, Bool, true, false, ◌&&◌, ◌||◌, ◌⊎◌, inl, inr, List, [], ◌∷◌, ◌++◌, length, filter, map, refl, sym, ap, ◌∙◌, arith, eqb, Some}
use Rattle.std.specs.Prelude.{slice_get}
use Rattle.std.specs.List.{list_any}
use Rattle.std.proofs.lemmas.Bool.{false≢true, or_right}
use Rattle.std.proofs.lemmas.List.Folds.{list_any-append}
use Rattle.solv_list.proofs.Booleans.{or_false}
use Rattle.solv_pool.specs.Prelude.{Dep, is_among, passes, Catalog, members, packages, package_at, dependency, package_meets}
use Rattle.solv_pool.specs.Parts.{parts}
use Rattle.solv_pool.specs.Needs.{serves, asked_by}
use Rattle.solv_pool.specs.declared.packages.Package.{Package}
use Rattle.solv_pool.specs.declared.packages.Need.{Need}
use Rattle.solv_pool.proofs.Among.{among_filter}
use Rattle.solv_prov.proofs.Obsoleting.{among_range}
use Rattle.solv_clean.specs.Inner.Tables.{is_marked}
use Rattle.solv_clean.specs.Inner.Finding.{itself, serving, serving_need, serving_package}
use Rattle.std.proofs.lemmas.Option.{slice_get_past}

-- the record of a package
pub package_is : (catalog : Catalog) (p : ℕ) (a : Package) → 0 < p → slice_get catalog.universe.packages (p - 1) ≡ Some a → package_at catalog p ≡ Some a
package_is catalog zero a lt h = absurd (omega arith)
package_is catalog (suc k) a lt h = let e : suc k - 1 ≡ k = omega arith in rw e at h

pub marked_below : (M : List Bool) (q : ℕ) → is_marked M q ≡ true → q < length M
marked_below [] q h = absurd (false≢true h)
marked_below (x ∷ M) zero h = omega arith
marked_below (x ∷ M) (suc q) h = let k = marked_below M q h in omega arith

module _ (catalog : Catalog) where
  pub single : (d : Dep ℕ) → parts d ≡ d ∷ [] → (q : ℕ) → serves catalog q d ≡ package_meets catalog d q
  single d e q = ap (list_any (λ part. package_meets catalog part q)) e ∙ or_false (package_meets catalog d q)

  pub serving_operand : (id a : ℕ) → parts (dependency catalog id) ≡ parts (dependency catalog a) → (q : ℕ) → list_any (λ i. serving catalog i q) (a ∷ []) ≡ list_any (λ i. serving catalog i q) (id ∷ [])
  serving_operand id a e q = ap (λ ps. list_any (λ part. package_meets catalog part q) ps || false) (sym e)

  pub serves_both : (id a b : ℕ) → parts (dependency catalog id) ≡ parts (dependency catalog a) ++ parts (dependency catalog b) → (q : ℕ) → serves catalog q (dependency catalog id) ≡ (serves catalog q (dependency catalog a) || serves catalog q (dependency catalog b))
  serves_both id a b e q = ap (list_any (λ part. package_meets catalog part q)) e ∙ list_any-append (λ part. package_meets catalog part q) (parts (dependency catalog a)) (parts (dependency catalog b))

  pub serving_both : (id a b : ℕ) → parts (dependency catalog id) ≡ parts (dependency catalog a) ++ parts (dependency catalog b) → (q : ℕ)
      → list_any (λ i. serving catalog i q) (a ∷ b ∷ []) ≡ list_any (λ i. serving catalog i q) (id ∷ [])
  serving_both id a b e q = ap (λ t. serving catalog a q || t) (or_false (serving catalog b q)) ∙ sym (serves_both id a b e q) ∙ sym (or_false (serving catalog id q))

  -- what serves a package, by its requirements and its recommends
  pub asked_are : (p : ℕ) (a : Package) → package_at catalog p ≡ Some a → (q : ℕ)
      → (list_any (λ n. serving_need catalog n q) a.requires_ || list_any (λ i. serving catalog i q) a.recommends) ≡ list_any (λ x. serving_package catalog x q) (p ∷ [])
  asked_are p a at q =
      ap (λ t. t || list_any (λ i. serving catalog i q) a.recommends) (sym (mapped a.requires_))
      ∙ sym (list_any-append (λ i. serving catalog i q) (map (λ (need : Need). need.dep) a.requires_) a.recommends)
      ∙ ap (λ o. passes o (λ (b : Package). list_any (λ i. serving catalog i q) (asked_by b))) (sym at) ∙ sym (or_false (serving_package catalog p q))
    where
      mapped : (needs : List Need) → list_any (λ i. serving catalog i q) (map (λ (need : Need). need.dep) needs) ≡ list_any (λ n. serving_need catalog n q) needs
      mapped [] = refl
      mapped (need ∷ needs) = ap (λ t. serving_need catalog need q || t) (mapped needs)

  module _ (may : List Bool) (each : length may ≡ length catalog.universe.packages + 1) where
    pub in_members : (q : ℕ) → is_marked may q ≡ true → is_among (members catalog) q ≡ true
    in_members zero h = refl
    in_members (suc k) h = or_right (eqb 0 (suc k)) (is_among (packages catalog) (suc k)) (among_range 1 (length catalog.universe.packages) (suc k) (omega arith) (omega (arith, marked_below may (suc k) h, each)))

    pub serving_itself : (id : ℕ) → parts (dependency catalog id) ≡ dependency catalog id ∷ [] → (q : ℕ) → is_marked may q ≡ true
        → list_any (λ x. itself x q) (filter (package_meets catalog (dependency catalog id)) (members catalog)) ≡ list_any (λ i. serving catalog i q) (id ∷ [])
    serving_itself id e q h =
        among_filter (package_meets catalog (dependency catalog id)) (members catalog) q
        ∙ ap (λ b. b && package_meets catalog (dependency catalog id) q) (in_members q h)
        ∙ sym (single (dependency catalog id) e q) ∙ sym (or_false (serving catalog id q))

  -- the system asks for nothing, and neither does what is no package
  pub asks_nothing : (v : ℕ) → (v ≡ 0) ⊎ (length catalog.universe.packages < v) → (q : ℕ) → serving_package catalog v q ≡ false
  asks_nothing zero h q = refl
  asks_nothing (suc k) h q = ap (λ o. passes o (λ (a : Package). list_any (λ id. serves catalog q (dependency catalog id)) (asked_by a))) (slice_get_past catalog.universe.packages k (elim h [ inl e ↦ absurd (omega (arith, e)) | inr lt ↦ omega (arith, lt) ]))
