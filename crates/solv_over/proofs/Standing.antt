-- The clauses of the made rules stand beside those of all hard rules.
use Rattle.std.proofs.Common.{◌≡◌, ℕ, zero, suc, Bool, true, false, not, ◌&&◌, ◌||◌, List, [], ◌∷◌, ◌++◌, map, Option, Some, None, ◌⊎◌, inl, inr, refl, sym, ap, ◌∙◌, subst, if◌then◌else◌, eq-eqb}
use Rattle.std.specs.Prelude.{ℤ, filter, flat_map, ◌==◌}
use Rattle.std.specs.List.{list_any, list_all}
use Rattle.std.proofs.lemmas.Bool.{and_parts, and_from, cases_Bool, false≢true, or_left, or_right, or_cases}
use Rattle.solv_list.proofs.Booleans.{false_of_not}
use Rattle.solv_pool.specs.Prelude.{Dep, package_wise, is_among, passes, Catalog, packages, package_at, dependency, is_installed, counted_requirements, counted_rich_conflicts, update_candidates, successors, feature_candidates, kept_packages, is_kept, marked, HardRule, not_installable, req, con, rich_con, obs, same, infarch, update, dup, feature, install, erase, lock, best_job, best_update, hard_rules_by}
use Rattle.solv_pool.specs.Best.{best}
use Rattle.solv_pool.specs.Clauses.{is_in, is_out, Clause, times, with_package, clauses_of, raw_clauses, rule_clauses}
use Rattle.solv_pool.specs.Counting.{requirement_counts, rich_conflict_counts}
use Rattle.solv_pool.specs.Laws.{IsWellPlaced}
use Rattle.solv_pool.specs.Needs.{asked_by, serves}
use Rattle.solv_pool.specs.Updates.{is_feature}
use Rattle.solv_pool.specs.declared.jobs.Job.{Job}
use Rattle.solv_pool.specs.declared.job_marks.Marks.{Marks}
use Rattle.solv_pool.specs.declared.packages.Need.{Need}
use Rattle.solv_pool.specs.declared.packages.Package.{Package}
use Rattle.solv_pool.specs.declared.tasks.Flags.{Flags}
use Rattle.solv_pool.proofs.Members.{Has, has_front, has_back, has_mapped, has_filtered, has_among, among_has, of_mapped, of_flat, of_filtered, any_at}
use Rattle.solv_questions.specs.Questions.{Request, rules_of}
use Rattle.solv_questions.proofs.Fair.{legal_is_feature, successor_is_feature}
use Rattle.solv_questions.proofs.Origins.{IsFrom, IsRequired, IsRichConflict, is_from}
use Rattle.solv_leaving.specs.Inner.Leaving.{leaving, is_plainly_met}
use Rattle.solv_leaving.proofs.Made.{IsUnmade, made_or_unmade, made_is_hard, selects_all}
use Rattle.solv_over.specs.Inner.Widened.{AreBeside}
use Rattle.solv_leaving.specs.Inner.Leaving.{touches, LeavesOut}
use Rattle.solv_over.proofs.Fair.{fair, AreFair, fair_untouched, fair_plain, fair_some, fair_outs, fair_times}
use Rattle.solv_over.proofs.Numbered.{inside_of, SaysOut, IsPlaced, rules_beside}

module _ (catalog : Catalog) (flags : Flags) (jobs : List Job) (marks : Marks) (left : List Bool) (out : LeavesOut catalog flags jobs marks left) where
  abbrev pub inside : ℕ → Bool
  inside p = not (marked left p)

  abbrev pub asked_with : Request
  asked_with = record { catalog = catalog; flags = flags; jobs = jobs; marks = leaving marks left }

  abbrev IsInside : List ℕ → Type 0
  IsInside xs = (q : ℕ) → Has xs q → inside q ≡ true

  pub kept_inside : (p : ℕ) → is_installed catalog p ≡ true → IsInside (feature_candidates catalog flags marks p)
  kept_inside p installed q h = ap not (out.kept p q installed (has_among (feature_candidates catalog flags marks p) q h))

  pub successors_inside : (p : ℕ) → is_installed catalog p ≡ true → IsInside (successors catalog flags marks p)
  successors_inside p installed q h = kept_inside p installed q (successor_is_feature asked_with (λ l. false) p q h)

  pub itself_inside : (p : ℕ) → Has (packages catalog) p → is_installed catalog p ≡ true → inside p ≡ true
  itself_inside p there installed = kept_inside p installed p (has_filtered (λ o. (o == p) || is_feature catalog marks p o) (packages catalog) p there (or_left (p == p) (is_feature catalog marks p p) (eq_itself p)))
    where
      eq_itself : (n : ℕ) → (n == n) ≡ true
      eq_itself n = eq-eqb n n refl

  installed_of : (p : ℕ) → Has (kept_packages catalog flags (leaving marks left)) p → is_installed catalog p ≡ true
  installed_of p h = (and_parts (is_installed catalog p) _ (of_filtered (is_kept catalog flags (leaving marks left)) (packages catalog) p h).1).0

  best_of : (xs : List ℕ) (q : ℕ) → Has (best catalog xs) q → is_among xs q ≡ true
  best_of xs q h = (and_parts (is_among xs q) _ (of_filtered _ (packages catalog) q h).1).0

  pub required_asked : (a : Package) (need : Need) → Has a.requires_ need → Has (asked_by a) need.dep
  required_asked a need h = has_front (map (λ z. z.dep) a.requires_) a.recommends need.dep (has_mapped (λ z. z.dep) a.requires_ need h)

  -- of a package that is not left out: what it asks for is plainly met, and served from inside, or nothing that is left out touches it
  module _ (p : ℕ) (a : Package) (there : Has (packages catalog) p) (at : package_at catalog p ≡ Some a) (own : inside p ≡ true) where
    pub served_inside : (d : ℕ) → Has (asked_by a) d → (q : ℕ) → serves catalog q (dependency catalog d) ≡ true → inside q ≡ true
    served_inside d asked q s =
        let serves_it : passes (package_at catalog p) (λ b. list_any (λ id. serves catalog q (dependency catalog id)) (asked_by b)) ≡ true =
        ap (λ o. passes o (λ b. list_any (λ id. serves catalog q (dependency catalog id)) (asked_by b))) at ∙ any_at (λ id. serves catalog q (dependency catalog id)) (asked_by a) d asked s in
        ap not (out.needed p q (has_among (packages catalog) p there) (false_of_not (marked left p) own) serves_it)

    abbrev rich_asks : ℕ → Package → Bool
    rich_asks q b = list_any (λ id. not (is_plainly_met (dependency catalog id)) && touches catalog q (dependency catalog id)) (asked_by b)

    abbrev rich_fights : ℕ → Package → Bool
    rich_fights q b = list_any (λ id. not (package_wise (dependency catalog id)) && touches catalog q (dependency catalog id)) b.conflicts

    touched_inside : (q : ℕ) → (rich_asks q a || rich_fights q a) ≡ true → inside q ≡ true
    touched_inside q h =
        ap not (out.touched p q (has_among (packages catalog) p there) (false_of_not (marked left p) own) (ap (λ o. passes o (λ b. rich_asks q b || rich_fights q b)) at ∙ h))

    pub untouched_asked : (d : ℕ) → Has (asked_by a) d → is_plainly_met (dependency catalog d) ≡ false → (q : ℕ) → touches catalog q (dependency catalog d) ≡ true → inside q ≡ true
    untouched_asked d asked rich q t =
        touched_inside q (or_left (rich_asks q a) (rich_fights q a) (any_at (λ id. not (is_plainly_met (dependency catalog id)) && touches catalog q (dependency catalog id)) (asked_by a) d asked (and_from (not (is_plainly_met (dependency catalog d))) (touches catalog q (dependency catalog d)) (ap not rich) t)))

    pub untouched_conflict : (d : ℕ) → Has a.conflicts d → package_wise (dependency catalog d) ≡ false → (q : ℕ) → touches catalog q (dependency catalog d) ≡ true → inside q ≡ true
    untouched_conflict d asked rich q t =
        touched_inside q (or_right (rich_asks q a) (rich_fights q a) (any_at (λ id. not (package_wise (dependency catalog id)) && touches catalog q (dependency catalog id)) a.conflicts d asked (and_from (not (package_wise (dependency catalog d))) (touches catalog q (dependency catalog d)) (ap not rich) t)))

  abbrev Fair : List Clause → Type 0
  Fair cs = AreFair catalog inside cs

  abbrev Out : HardRule → Type 0
  Out x = SaysOut (marked left) out.system catalog x

  fair_out : (p : ℕ) → Fair ((is_out p ∷ []) ∷ [])
  fair_out p c (inl e) l k = own (subst (λ (z : Clause). Has z l) (sym e) k)
    where
      own : Has (is_out p ∷ []) l → fair catalog inside l ≡ true
      own (inl s) = ap (fair catalog inside) (sym s)
      own (inr n) = absurd n
  fair_out p c (inr n) l k = absurd n

  fair_two : (p q : ℕ) → Fair ((is_out p ∷ is_out q ∷ []) ∷ [])
  fair_two p q c (inl e) l k = own (subst (λ (z : Clause). Has z l) (sym e) k)
    where
      own : Has (is_out p ∷ is_out q ∷ []) l → fair catalog inside l ≡ true
      own (inl s) = ap (fair catalog inside) (sym s)
      own (inr (inl s)) = ap (fair catalog inside) (sym s)
      own (inr (inr n)) = absurd n
  fair_two p q c (inr n) l k = absurd n

  fair_installed : (xs : List ℕ) → ((q : ℕ) → Has xs q → is_installed catalog q ≡ true → inside q ≡ true) → Fair (map (λ q. (if is_installed catalog q then is_in q else is_out q) ∷ []) xs)
  fair_installed xs f c h l k =
      let m = of_mapped (λ q. (if is_installed catalog q then is_in q else is_out q) ∷ []) xs c h in
      own m.0 (is_installed catalog m.0) refl (f m.0 m.1.0) (subst (λ (z : Clause). Has z l) (sym m.1.1) k)
    where
      own : (q : ℕ) (b : Bool) → is_installed catalog q ≡ b → (is_installed catalog q ≡ true → inside q ≡ true) → Has ((if b then is_in q else is_out q) ∷ []) l → fair catalog inside l ≡ true
      own q true e g (inl s) = ap (fair catalog inside) (sym s) ∙ g e
      own q true e g (inr n) = absurd n
      own q false e g (inl s) = ap (fair catalog inside) (sym s)
      own q false e g (inr n) = absurd n

  -- clauses that begin with a package are fair where the others are, and say that it is out
  fair_package : (p : ℕ) (cs : List Clause) → Fair cs → Fair (with_package p cs)
  fair_package p cs f = fair_times catalog inside ((is_out p ∷ []) ∷ []) cs (fair_out p) f

  package_out : (p : ℕ) (cs : List Clause) (c : Clause) → Has (with_package p cs) c → Has c (is_out p)
  package_out p cs c h =
      let x = of_flat (λ a. map (λ b. a ++ b) cs) ((is_out p ∷ []) ∷ []) c h in
      let y = of_mapped (λ b. x.0 ++ b) cs c x.1.1 in
      subst (λ (z : Clause). Has z (is_out p)) y.1.1 (has_front x.0 y.0 (is_out p) (own x.1.0))
    where
      own : {d : Clause} → Has ((is_out p ∷ []) ∷ []) d → Has d (is_out p)
      own {d} (inl e) = subst (λ (z : Clause). Has z (is_out p)) e (inl refl)
      own (inr n) = absurd n

  abbrev Placed : HardRule → Type 0
  Placed x = AreFair catalog inside (raw_clauses catalog x) ⊎ Out x

  -- what a requirement of a package that is left out, or a conflict of it that no package meets alone, says
  out_requirement : (p d : ℕ) → marked left p ≡ true → Out (req p d)
  out_requirement p d h = record { pack = p; out = h; each = package_out p (clauses_of catalog None true (dependency catalog d)) }

  out_conflict : (p d : ℕ) → marked left p ≡ true → Out (rich_con p d)
  out_conflict p d h = record { pack = p; out = h; each = package_out p (clauses_of catalog (Some p) false (dependency catalog d)) }

  -- a requirement that is made
  placed_requirement : (p d : ℕ) → IsRequired asked_with p d → IsWellPlaced catalog (req p d) → Placed (req p d)
  placed_requirement p d from placed =
      let f = of_filtered (λ need. requirement_counts catalog (leaving marks left) p need.dep) (from.package_).requires_ from.need from.counts in
      let own : inside p ≡ true = (and_parts (inside p) _ f.1).0 in
      let asked : Has (asked_by from.package_) d = subst (Has (asked_by from.package_)) from.is (required_asked from.package_ from.need f.0) in
      let cs : List Clause = clauses_of catalog None true (dependency catalog d) in
      elim (cases_Bool (is_plainly_met (dependency catalog d))) [
        | inl plain ↦ inl (fair_package p cs (fair_plain catalog inside (dependency catalog d) placed plain (served_inside p from.package_ from.there from.at own d asked)))
        | inr rich ↦ inl (fair_package p cs (fair_untouched catalog inside None true (dependency catalog d) (untouched_asked p from.package_ from.there from.at own d asked rich)))
      ]

  placed_conflict : (p d : ℕ) → IsRichConflict asked_with p d → Placed (rich_con p d)
  placed_conflict p d from = elim (cases_Bool (marked left p)) [
    | inl y ↦ inr (out_conflict p d y)
    | inr n ↦
        let f = of_filtered (λ x. not (package_wise (dependency catalog x)) && rich_conflict_counts catalog (leaving marks left) p x) (from.package_).conflicts d from.counts in
        let rich : package_wise (dependency catalog d) ≡ false = false_of_not (package_wise (dependency catalog d)) (and_parts (not (package_wise (dependency catalog d))) _ f.1).0 in
        inl (fair_package p (clauses_of catalog (Some p) false (dependency catalog d)) (fair_untouched catalog inside (Some p) false (dependency catalog d) (untouched_conflict p from.package_ from.there from.at (ap not n) d f.0 rich)))
  ]

  best_inside : (p : ℕ) → is_installed catalog p ≡ true → (xs : List ℕ) → best catalog (update_candidates catalog flags marks p) ≡ xs → IsInside xs
  best_inside p installed xs is q k =
      let best_there : Has (best catalog (update_candidates catalog flags marks p)) q = subst (λ (zs : List ℕ). Has zs q) (sym is) k in
      let legal : Has (update_candidates catalog flags marks p) q = among_has (update_candidates catalog flags marks p) q (best_of (update_candidates catalog flags marks p) q best_there) in
      kept_inside p installed q (legal_is_feature asked_with (λ l. false) p q legal)

  placed_by : (x : HardRule) → Has (rules_of asked_with) x → IsFrom asked_with x → IsWellPlaced catalog x → Placed x
  placed_by (not_installable p) there from placed = inl (fair_out p)
  placed_by (req p d) there from placed = placed_requirement p d from placed
  placed_by (con p d q) there from placed = inl (fair_two p q)
  placed_by (rich_con p d) there from placed = placed_conflict p d from
  placed_by (obs p d q) there from placed = inl (fair_two p q)
  placed_by (same p q) there from placed = inl (fair_two p q)
  placed_by (infarch p) there from placed = inl (fair_out p)
  placed_by (update p xs) there from placed = inl (fair_some catalog inside xs (subst IsInside from.1 (successors_inside p (installed_of p from.0))))
  placed_by (dup p xs) there from placed = inl (fair_some catalog inside xs (subst IsInside from.1 (successors_inside p (installed_of p from.0))))
  placed_by (feature p xs) there from placed = inl (fair_some catalog inside xs (subst IsInside from.1 (kept_inside p (installed_of p from.0))))
  placed_by (install j xs) there from placed = inl (fair_some catalog inside xs (λ q k. ap not (out.selected q (selects_all catalog flags jobs (leaving marks left) (install j xs) there q k))))
  placed_by (erase j xs) there from placed = inl (fair_outs catalog inside xs)
  placed_by (lock j xs) there from placed = inl (fair_installed xs (λ q k installed. itself_inside q (of_filtered _ (packages catalog) q (subst (λ (zs : List ℕ). Has zs q) (sym from.is) k)).0 installed))
  placed_by (best_job j xs) there from placed = inl (fair_some catalog inside xs (λ q k. ap not (out.selected q (selects_all catalog flags jobs (leaving marks left) (best_job j xs) there q k))))
  placed_by (best_update j p xs) there from placed = inl (fair_some catalog inside xs (best_inside p from.installed xs from.is))

  out_of : (x : HardRule) → IsUnmade left x → Out x
  out_of x own = subst Out own.is (out_requirement own.pack own.dep own.out)

  -- of some of the made rules, and of those of all that are these or are not made
  pub stand_beside : ((x : HardRule) → Has (rules_of asked_with) x → IsWellPlaced catalog x)
      → (made all : List HardRule) → ((x : HardRule) → Has made x → Has (rules_of asked_with) x) → ((x : HardRule) → Has made x → Has all x) → ((x : HardRule) → Has all x → Has made x ⊎ IsUnmade left x)
      → AreBeside (marked left) (flat_map (rule_clauses catalog) made) (flat_map (rule_clauses catalog) all)
  stand_beside well made all of_made wider each = rules_beside (marked left) out.system catalog made all wider (λ x h. elim (each x h) [
    | inl m ↦ inl (m, placed_by x (of_made x m) (is_from asked_with x (of_made x m)) (well x (of_made x m)))
    | inr u ↦ inr (out_of x u)
  ])
