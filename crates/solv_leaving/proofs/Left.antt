-- What is left out, by the tables of a search.
use Rattle.std.proofs.Common.{◌≡◌, ℕ, zero, suc, ◌+◌, ◌<◌, ◌≤◌, Bool, true, false, ◌&&◌, List, [], ◌∷◌, length, inl, inr, refl, ◌∙◌, arith, eqb, eq-eqb, Option, Some, None}
use Rattle.std.specs.Prelude.{not}
use Rattle.std.specs.List.{list_any}
use Rattle.std.proofs.lemmas.Bool.{and_from, false≢true, or_left, or_right, cases_lt}
use Rattle.solv_pool.specs.Prelude.{is_among, passes, Catalog, packages, package_at, is_installed, feature_candidates, marked}
use Rattle.solv_pool.specs.Needs.{serves_package}
use Rattle.solv_pool.specs.declared.jobs.Job.{Job}
use Rattle.solv_pool.specs.declared.job_marks.Marks.{Marks}
use Rattle.solv_pool.specs.declared.packages.Package.{Package}
use Rattle.solv_pool.specs.declared.tasks.Flags.{Flags}
use Rattle.solv_clean.specs.Inner.Tables.{is_marked}
use Rattle.solv_clean.proofs.Reached.{marked_is}
use Rattle.solv_clean.proofs.Told.{installed_there}
use Rattle.solv_leaving.specs.Inner.Leaving.{LeavesOut, touches_package}
use Rattle.solv_leaving.specs.Inner.Checking.{IsPackageIn}
use Rattle.solv_leaving.specs.Inner.Starting.{AreStarts, kept_by, stands_alone, is_met_alone}

marked_past : (M : List Bool) (q : ℕ) → length M ≤ q → marked M q ≡ false
marked_past [] q le = refl
marked_past (x ∷ M) zero le = absurd (omega arith)
marked_past (x ∷ M) (suc q) le = marked_past M q (omega (arith, le))

module _ (catalog : Catalog) (flags : Flags) (jobs : List Job) (marks : Marks) where
  module _ (starts left : List Bool)
      (are : AreStarts catalog flags marks jobs starts)
      (size : length left ≡ length catalog.universe.packages + 1)
      (system : marked left 0 ≡ false)
      (out : (q : ℕ) → marked starts q ≡ true → marked left q ≡ false) where
    -- a package, if what starts is marked
    out_by : (q : ℕ) → (0 < q → q < length starts → is_marked starts q ≡ true) → marked left q ≡ false
    out_by zero h = system
    out_by (suc k) h = elim (cases_lt (suc k) (length starts)) [
      | inl lt ↦ out (suc k) (marked_is starts (suc k) ∙ h (omega arith) lt)
      | inr le ↦ marked_past left (suc k) (omega (arith, le, size, are.size))
    ]

    wider : (o : Option Package) (f g : Package → Bool) → ((a : Package) → f a ≡ true → g a ≡ true) → passes o f ≡ true → passes o g ≡ true
    wider None f g more h = absurd (false≢true h)
    wider (Some a) f g more h = more a h

    alone_out : (q : ℕ) → passes (package_at catalog q) (stands_alone catalog) ≡ true → marked left q ≡ false
    alone_out q h = out_by q (λ low lt.
        are.starts q q low lt lt (or_right (kept_by catalog flags marks q q) (eqb q q && passes (package_at catalog q) (stands_alone catalog)) (and_from (eqb q q) (passes (package_at catalog q) (stands_alone catalog)) (eq-eqb q q refl) h)))

    -- where it is seen of each package that nothing is left out which it asks for
    pub leaves_out : ((p : ℕ) → is_among (packages catalog) p ≡ true → marked left p ≡ false → IsPackageIn catalog left p) → LeavesOut catalog flags jobs marks left
    leaves_out each = record {
      system = system;
      kept = λ p q h k. out_by q (λ low lt.
          let there = installed_there catalog p h in
          let high : p < length starts = omega (arith, there.1, are.size) in
          are.starts p q there.0 high lt (or_left (kept_by catalog flags marks p q) (eqb p q && passes (package_at catalog p) (stands_alone catalog)) (and_from (is_installed catalog p) (is_among (feature_candidates catalog flags marks p) q) h k)));
      selected = λ q h. out_by q (λ low lt. are.selected q low lt h);
      offered = λ q h. alone_out q (wider (package_at catalog q) (λ a. list_any (λ d. true) a.supplements) (stands_alone catalog) (λ a k. or_left (list_any (λ d. true) a.supplements) (not (is_met_alone catalog a)) k) h);
      rich = λ q h. alone_out q (wider (package_at catalog q) (λ a. not (is_met_alone catalog a)) (stands_alone catalog) (λ a k. or_right (list_any (λ d. true) a.supplements) (not (is_met_alone catalog a)) k) h);
      needed = λ p q there own h. each p there own q (or_left (serves_package catalog q p) (touches_package catalog q p) h);
      touched = λ p q there own h. each p there own q (or_right (serves_package catalog q p) (touches_package catalog q p) h);
    }
