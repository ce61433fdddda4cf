-- Which rows are read.
use Rattle.std.proofs.Common.{◌≡◌, ℕ, Bool, true, false, not, ◌||◌, List, ◌++◌, map, Some, refl, ap, ◌∙◌, eq-eqb}
use Rattle.std.specs.Prelude.{filter, flat_map, ◌==◌}
use Rattle.std.specs.Option.{option_map_or}
use Rattle.std.proofs.lemmas.Bool.{or_left, or_right}
use Rattle.solv_pool.specs.Prelude.{is_among, packages, package_at, is_installed, counted_requirements, counted_rich_conflicts}
use Rattle.solv_pool.specs.declared.packages.Package.{Package}
use Rattle.solv_pool.specs.declared.packages.Need.{Need}
use Rattle.solv_questions.specs.Questions.{Request}
use Rattle.solv_pool.proofs.Members.{Has, has_front, has_mapped, has_flat, has_filtered, has_when, has_option, has_among, any_at}
use Rattle.solv_plan.specs.declared.plans.Want.{Want}
use Rattle.solv_plan.specs.Inner.PlanOf.{has_trees, want_of, conflict_of, required_by, recommended_by, all_required, all_recommended, is_asked_by, is_supplement, is_read}

module _ (r : Request) where
  -- where some relation is read by its tree, each is read
  pub read_with_trees : has_trees r.catalog ≡ true → (d : ℕ) → is_read r d ≡ true
  read_with_trees any d = or_left (has_trees r.catalog) (is_asked_by (all_required r) d || (is_asked_by (all_recommended r) d || is_supplement r d)) any

  asked_by : (wants : List Want) (p d : ℕ) → Has wants (want_of r.catalog p d) → is_asked_by wants d ≡ true
  asked_by wants p d h = any_at (λ w. w.wanted.dep == d) wants (want_of r.catalog p d) h (eq-eqb d d refl)

  -- what a package requires
  pub read_need : (p : ℕ) (a : Package) (need : Need) → Has (packages r.catalog) p → package_at r.catalog p ≡ Some a → Has (counted_requirements r.catalog r.marks p a) need → is_read r need.dep ≡ true
  read_need p a need there e h =
      let own : Package → List Want = λ b. map (λ n. want_of r.catalog p n.dep) (counted_requirements r.catalog r.marks p b) ++ map (conflict_of r.catalog p) (counted_rich_conflicts r.catalog r.marks p b) in
      let w : Want = want_of r.catalog p need.dep in
      let first : Has (own a) w = has_front (map (λ n. want_of r.catalog p n.dep) (counted_requirements r.catalog r.marks p a)) (map (conflict_of r.catalog p) (counted_rich_conflicts r.catalog r.marks p a)) w
      (has_mapped (λ n. want_of r.catalog p n.dep) (counted_requirements r.catalog r.marks p a) need h) in
      let one : Has (required_by r p) w = has_option own (package_at r.catalog p) a w e first in
      or_right (has_trees r.catalog) (is_asked_by (all_required r) need.dep || (is_asked_by (all_recommended r) need.dep || is_supplement r need.dep))
      (or_left (is_asked_by (all_required r) need.dep) (is_asked_by (all_recommended r) need.dep || is_supplement r need.dep)
      (asked_by (all_required r) p need.dep (has_flat (required_by r) (packages r.catalog) p w there one)))

  -- what a package recommends that is not installed, where recommendations count
  pub read_recommended : not r.flags.ignore_recommended ≡ true → (p : ℕ) (a : Package) (d : ℕ) → Has (packages r.catalog) p → not (is_installed r.catalog p) ≡ true → package_at r.catalog p ≡ Some a → Has a.recommends d → is_read r d ≡ true
  read_recommended counts p a d there new e h =
      let own : Package → List Want = λ b. map (want_of r.catalog p) b.recommends in
      let w : Want = want_of r.catalog p d in
      let one : Has (recommended_by r p) w = has_option own (package_at r.catalog p) a w e (has_mapped (want_of r.catalog p) a.recommends d h) in
      let ps : List ℕ = filter (λ q. not (is_installed r.catalog q)) (packages r.catalog) in
      or_right (has_trees r.catalog) (is_asked_by (all_required r) d || (is_asked_by (all_recommended r) d || is_supplement r d))
      (or_right (is_asked_by (all_required r) d) (is_asked_by (all_recommended r) d || is_supplement r d)
      (or_left (is_asked_by (all_recommended r) d) (is_supplement r d)
      (asked_by (all_recommended r) p d (has_when (not r.flags.ignore_recommended) (flat_map (recommended_by r) ps) w counts
      (has_flat (recommended_by r) ps p w (has_filtered (λ q. not (is_installed r.catalog q)) (packages r.catalog) p there new) one)))))

  -- what supplements a package
  pub read_supplement : (p : ℕ) (a : Package) (d : ℕ) → Has (packages r.catalog) p → package_at r.catalog p ≡ Some a → Has a.supplements d → is_read r d ≡ true
  read_supplement p a d there e h =
      let test : ℕ → Bool = λ q. option_map_or (λ b. is_among b.supplements d) (package_at r.catalog q) false in
      or_right (has_trees r.catalog) (is_asked_by (all_required r) d || (is_asked_by (all_recommended r) d || is_supplement r d))
      (or_right (is_asked_by (all_required r) d) (is_asked_by (all_recommended r) d || is_supplement r d)
      (or_right (is_asked_by (all_recommended r) d) (is_supplement r d)
      (any_at test (packages r.catalog) p there (ap (λ o. option_map_or (λ b. is_among b.supplements d) o false) e ∙ has_among a.supplements d h))))
