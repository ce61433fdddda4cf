-- What questions ask for is not left out.
use Rattle.std.proofs.Common.{◌≡◌, ◌⊎◌, ℕ, Bool, true, false, not, ◌&&◌, ◌||◌, List, [], ◌∷◌, ◌++◌, map, Option, Some, None, inl, inr, refl, sym, ◌∙◌, ap, subst, eq-eqb, if◌then◌else◌}
use Rattle.std.specs.Prelude.{ℤ, filter, flat_map, ◌==◌}
use Rattle.std.specs.List.{list_any, list_all}
use Rattle.std.proofs.lemmas.Bool.{and_parts, or_cases, or_left, or_right, cases_Bool, false≢true}
use Rattle.std.proofs.lemmas.List.Folds.{list_any-append}
use Rattle.solv_list.proofs.Booleans.{false_of_not}
use Rattle.solv_pool.specs.Prelude.{Dep, one, namespace, and, or, with, without, if_holds, joined, under, package_wise, when, is_among, passes, Catalog, packages, package_at, dependency, is_installed, same_name, package_meets, holds, counted_requirements, counted_rich_conflicts, update_candidates, successors, feature_candidates, marked, is_to_move, HardRule, install, best_job, best_update}
use Rattle.solv_pool.specs.Best.{best}
use Rattle.solv_pool.specs.Counting.{requirement_counts, rich_conflict_counts}
use Rattle.solv_pool.specs.Inner.HardRules.{numbered_jobs}
use Rattle.solv_pool.specs.Needs.{asked_by, serves}
use Rattle.solv_pool.specs.Parts.{parts}
use Rattle.solv_pool.specs.declared.jobs.Job.{Job}
use Rattle.solv_pool.specs.declared.job_marks.Marks.{Marks}
use Rattle.solv_pool.specs.declared.packages.Package.{Package}
use Rattle.solv_pool.specs.declared.tasks.Flags.{Flags}
use Rattle.solv_pool.proofs.Members.{Has, has_back, has_split, has_among, among_has, of_mapped, of_flat, of_filtered, of_when, of_option}
use Rattle.solv_policy.specs.Policy.{policy_cmp}
use Rattle.solv_policy.specs.declared.policy.Asked.TheVariants.{Kept, Other}
use Rattle.solv_trail.specs.Asked.{set_of}
use Rattle.solv_trail.specs.declared.questions.Ask.{Ask}
use Rattle.solv_trail.specs.declared.questions.Question.{Question}
use Rattle.solv_trail.specs.declared.questions.Question.TheVariants as question
use Rattle.solv_questions.specs.Candidates.{may_take, may_break}
use Rattle.solv_questions.specs.Questions.{Request, Query, rules_of, is_outside, is_update_of, is_feature_of, query_of, best_job_query, job_query, queries_of_job, best_update_query, far_candidates, keep_query, queries_of_installed, installed_queries, requirement_queries, conflict_queries, recommendation_queries, package_queries, recommended_queries, may_supplement, supplement_query, supplement_queries, queries, first_ask}
use Rattle.solv_questions.specs.Inner.Questions.{is_candidate, dependency_query, conflict_query, queries_of_package, is_first_of_name, is_supplementing, close_candidates, without_those}
use Rattle.solv_questions.proofs.Asking.{ask_some}
use Rattle.solv_questions.proofs.Fair.{legal_is_feature}
use Rattle.solv_questions.proofs.Members.{sorted_has}
use Rattle.solv_questions.proofs.Origins.{is_from}
use Rattle.solv_leaving.specs.Inner.Leaving.{leaving, is_plainly_met}
use Rattle.solv_leaving.proofs.Made.{selects_all}
use Rattle.solv_leaving.specs.Inner.Leaving.{touches, LeavesOut}
use Rattle.solv_over.proofs.Standing.{asked_with, kept_inside, successors_inside, required_asked, served_inside, untouched_asked, untouched_conflict}
use Rattle.solv_over.proofs.Taking.{take_touches, break_touches}

-- a test that is wider lets through what there is
passes_wider : {X : Type 0} (o : Option X) (f g : X → Bool) → ((x : X) → f x ≡ true → g x ≡ true) → passes o f ≡ true → passes o g ≡ true
passes_wider None f g wide h = h
passes_wider (Some x) f g wide h = wide x h

some_there : {X : Type 0} (f : X → Bool) (xs : List X) → list_any f xs ≡ true → list_any (λ x. true) xs ≡ true
some_there f [] h = h
some_there f (x ∷ xs) h = refl

-- what may be taken for a dependency that packages meet alone meets it
module _ (catalog : Catalog) (out : ℕ → Bool) (set : ℕ → Bool) where
  abbrev takes : Dep ℕ → ℕ → Bool
  takes d q = may_take catalog out None set d q

  take_alone : (d : Dep ℕ) (q : ℕ) → package_wise d ≡ true → takes d q ≡ true → package_meets catalog d q ≡ true
  take_alone (one c) q w h = h
  take_alone (namespace n) q w h = h
  take_alone (joined with a b) q w h = h
  take_alone (joined without a b) q w h = h
  take_alone (joined or a b) q w h =
      let both = and_parts (package_wise a) (package_wise b) w in
      elim (or_cases (takes a q) (takes b q) h) [
        | inl k ↦ or_left (package_meets catalog a q) (package_meets catalog b q) (take_alone a q both.0 k)
        | inr k ↦ or_right (package_meets catalog a q) (package_meets catalog b q) (take_alone b q both.1 k)
      ]
  take_alone _ q w h = absurd (false≢true w)

  first_serves : (a b : Dep ℕ) (q : ℕ) → serves catalog q a ≡ true → list_any (λ part. package_meets catalog part q) (parts a ++ parts b) ≡ true
  first_serves a b q s = list_any-append (λ part. package_meets catalog part q) (parts a) (parts b) ∙ or_left (serves catalog q a) (serves catalog q b) s

  second_serves : (a b : Dep ℕ) (q : ℕ) → serves catalog q b ≡ true → list_any (λ part. package_meets catalog part q) (parts a ++ parts b) ≡ true
  second_serves a b q s = list_any-append (λ part. package_meets catalog part q) (parts a) (parts b) ∙ or_right (serves catalog q a) (serves catalog q b) s

  -- and what may be taken for one that is plainly met serves it
  pub take_serves : (d : Dep ℕ) (q : ℕ) → is_plainly_met d ≡ true → takes d q ≡ true → serves catalog q d ≡ true
  take_serves (one c) q p h = or_left (package_meets catalog (one c) q) false h
  take_serves (namespace n) q p h = or_left (package_meets catalog (namespace n) q) false h
  take_serves (joined with a b) q p h = or_left (package_meets catalog (joined with a b) q) false h
  take_serves (joined without a b) q p h = or_left (package_meets catalog (joined without a b) q) false h
  take_serves (joined and a b) q p h =
      let m = and_parts (is_plainly_met a) (is_plainly_met b) p in
      step (holds catalog a set) (λ k. take_serves a q m.0 k) (λ k. take_serves b q m.1 k) h
    where
      step : (x : Bool) → (takes a q ≡ true → serves catalog q a ≡ true) → (takes b q ≡ true → serves catalog q b ≡ true)
          → (if x then takes b q else takes a q) ≡ true → list_any (λ part. package_meets catalog part q) (parts a ++ parts b) ≡ true
      step true first second k = second_serves a b q (second k)
      step false first second k = first_serves a b q (first k)
  take_serves (joined or a b) q p h = step (package_wise (joined or a b)) refl p (λ m k. take_serves a q m k) (λ m k. take_serves b q m k)
    where
      step : (w : Bool) → package_wise (joined or a b) ≡ w → (w || (is_plainly_met a && is_plainly_met b)) ≡ true
          → (is_plainly_met a ≡ true → takes a q ≡ true → serves catalog q a ≡ true)
          → (is_plainly_met b ≡ true → takes b q ≡ true → serves catalog q b ≡ true)
          → list_any (λ part. package_meets catalog part q) (if w then joined or a b ∷ [] else parts a ++ parts b) ≡ true
      step true e plain first second = or_left (package_meets catalog (joined or a b) q) false (take_alone (joined or a b) q e h)
      step false e plain first second =
          let m = and_parts (is_plainly_met a) (is_plainly_met b) plain in
          elim (or_cases (takes a q) (takes b q) h) [
            | inl k ↦ first_serves a b q (first m.0 k)
            | inr k ↦ second_serves a b q (second m.1 k)
          ]
  take_serves (under if_holds a b) q p h = take_serves a q p h
  take_serves _ q p h = absurd (false≢true p)

module _ (catalog : Catalog) (flags : Flags) (jobs : List Job) (marks : Marks) (left : List Bool) (out : LeavesOut catalog flags jobs marks left) where
  abbrev inside : ℕ → Bool
  inside p = not (marked left p)

  abbrev request : Request
  request = asked_with catalog flags jobs marks left out

  abbrev IsInside : List ℕ → Type 0
  IsInside xs = (q : ℕ) → Has xs q → inside q ≡ true

  -- the best of a list are of it
  best_of : (xs : List ℕ) (q : ℕ) → Has (best catalog xs) q → is_among xs q ≡ true
  best_of xs q h = (and_parts (is_among xs q) _ (of_filtered _ (packages catalog) q h).1).0

  -- of what is taken for a dependency
  module _ (known : ℤ → Bool) where
    taken_inside : (p : ℕ) (a : Package) → Has (packages catalog) p → package_at catalog p ≡ Some a → inside p ≡ true → (d : ℕ) → Has (asked_by a) d → (x : Question) → IsInside (dependency_query catalog (leaving marks left) known x d).candidates
    taken_inside p a there at own d asked x q h =
        let test : ℕ → Bool = is_candidate catalog known (dependency catalog d) in
        let list : List ℕ = filter test (packages catalog) in
        let f = of_filtered test (packages catalog) q (sorted_has (policy_cmp catalog (leaving marks left) Other list) list q h) in
        elim (cases_Bool (is_plainly_met (dependency catalog d))) [
          | inl plain ↦ served_inside catalog flags jobs marks left out p a there at own d asked q (take_serves catalog (is_outside known) (set_of known) (dependency catalog d) q plain f.1)
          | inr rich ↦ untouched_asked catalog flags jobs marks left out p a there at own d asked rich q (take_touches catalog (is_outside known) None (set_of known) (dependency catalog d) q f.1)
        ]

    module _ (rules : List HardRule) (made : (x : HardRule) → Has rules x → Has (rules_of request) x) (sure : (p : ℕ) → set_of known p ≡ true → inside p ≡ true) where
      abbrev IsWithin : Query → Type 0
      IsWithin y = IsInside y.candidates

      of_those : (b : Bool) (x : Question) (xs : List ℕ) → IsInside xs → (y : Query) → Has (when b (query_of catalog (leaving marks left) (set_of known) x xs ∷ [])) y → IsWithin y
      of_those b x xs all y h = elim (of_when b (query_of catalog (leaving marks left) (set_of known) x xs ∷ []) y h).0 [
        | inl e ↦ subst IsWithin e (λ q k. all q (sorted_has (policy_cmp catalog (leaving marks left) Other xs) xs q k))
        | inr n ↦ absurd n
      ]

      of_best_job : (j : ℕ) (x : HardRule) → Has rules x → (y : Query) → Has (best_job_query catalog (leaving marks left) (set_of known) j x) y → IsWithin y
      of_best_job j (best_job i xs) there y h = of_those (i == j) (question.BestJob j) xs (λ q k. ap not (out.selected q (selects_all catalog flags jobs (leaving marks left) (best_job i xs) (made (best_job i xs) there) q k))) y h
      of_best_job j _ there y h = absurd h

      of_job : (j : ℕ) (x : HardRule) → Has rules x → (y : Query) → Has (job_query catalog (leaving marks left) (set_of known) j x) y → IsWithin y
      of_job j (install i xs) there y h = of_those (i == j) (question.Job j) xs (λ q k. ap not (out.selected q (selects_all catalog flags jobs (leaving marks left) (install i xs) (made (install i xs) there) q k))) y h
      of_job j _ there y h = absurd h

      of_best_update : (p : ℕ) (x : HardRule) → Has rules x → (y : Query) → Has (best_update_query catalog (leaving marks left) (set_of known) p x) y → IsWithin y
      of_best_update p (best_update j o xs) there y h = of_those (o == p) (question.BestUpdate j p) xs (best_update_inside j o xs (made (best_update j o xs) there)) y h
        where
          legal_among : (o q : ℕ) → is_among (update_candidates catalog flags marks o) q ≡ true → is_among (feature_candidates catalog flags marks o) q ≡ true
          legal_among o q h = has_among (feature_candidates catalog flags marks o) q (legal_is_feature request (λ l. false) o q (among_has (update_candidates catalog flags marks o) q h))

          best_update_inside : (j o : ℕ) (xs : List ℕ) → Has (rules_of request) (best_update j o xs) → IsInside xs
          best_update_inside j o xs h q k =
              let from = is_from request (best_update j o xs) h in
              let B : List ℕ → Type 0 = λ zs. Has zs q in
              let best_there : Has (best catalog (update_candidates catalog flags marks o)) q = subst B (sym from.is) k in
              ap not (out.kept o q from.installed (legal_among o q (best_of (update_candidates catalog flags marks o) q best_there)))
      of_best_update p _ there y h = absurd h

      of_keep : (p : ℕ) → is_installed catalog p ≡ true → IsWithin (keep_query catalog flags (leaving marks left) rules (set_of known) p)
      of_keep p installed q h = elim (has_split (close_candidates catalog flags (leaving marks left) p) _ q h) [
        | inl k ↦ successors_inside catalog flags jobs marks left out p installed q (sorted_has (policy_cmp catalog (leaving marks left) (Kept p) (successors catalog flags marks p)) (successors catalog flags marks p) q k)
        | inr k ↦
            let far : List ℕ = without_those (successors catalog flags marks p) (feature_candidates catalog flags marks p) in
            let w = of_when (not (list_any (is_update_of p) rules) && (marked marks.dup p || list_any (is_feature_of p) rules)) (far_candidates catalog flags (leaving marks left) p) q k in
            let s = sorted_has (policy_cmp catalog (leaving marks left) (Kept p) far) far q w.0 in
            kept_inside catalog flags jobs marks left out p installed q (of_filtered (λ o. not (is_among (successors catalog flags marks p) o)) (feature_candidates catalog flags marks p) q s).0
      ]

      of_requirement : (p : ℕ) → Has (packages catalog) p → inside p ≡ true → (y : Query) → Has (requirement_queries catalog (leaving marks left) known p) y → IsWithin y
      of_requirement p there own y h =
          let o = of_option (λ a. map (λ need. dependency_query catalog (leaving marks left) known (question.Requires p need.dep) need.dep) (counted_requirements catalog (leaving marks left) p a)) (package_at catalog p) y h in
          let m = of_mapped (λ need. dependency_query catalog (leaving marks left) known (question.Requires p need.dep) need.dep) (counted_requirements catalog (leaving marks left) p o.0) y o.1.1 in
          let f = of_filtered (λ need. requirement_counts catalog (leaving marks left) p need.dep) (o.0).requires_ m.0 m.1.0 in
          subst IsWithin m.1.1 (taken_inside p o.0 there o.1.0 own (m.0).dep (required_asked catalog flags jobs marks left out o.0 m.0 f.0) (question.Requires p (m.0).dep))

      of_conflict : (p : ℕ) → Has (packages catalog) p → inside p ≡ true → (y : Query) → Has (conflict_queries catalog (leaving marks left) known p) y → IsWithin y
      of_conflict p there own y h =
          let o = of_option (λ a. map (conflict_query catalog (leaving marks left) known p) (counted_rich_conflicts catalog (leaving marks left) p a)) (package_at catalog p) y h in
          let m = of_mapped (conflict_query catalog (leaving marks left) known p) (counted_rich_conflicts catalog (leaving marks left) p o.0) y o.1.1 in
          let c = of_filtered (λ x. not (package_wise (dependency catalog x)) && rich_conflict_counts catalog (leaving marks left) p x) (o.0).conflicts m.0 m.1.0 in
          let rich : package_wise (dependency catalog m.0) ≡ false = false_of_not (package_wise (dependency catalog m.0)) (and_parts (not (package_wise (dependency catalog m.0))) _ c.1).0 in
          let test : ℕ → Bool = may_break catalog (is_outside known) (Some p) (set_of known) (dependency catalog m.0) in
          let list : List ℕ = filter test (packages catalog) in
          subst IsWithin m.1.1 (λ q h.
          let f = of_filtered test (packages catalog) q (sorted_has (policy_cmp catalog (leaving marks left) Other list) list q h) in
          untouched_conflict catalog flags jobs marks left out p o.0 there o.1.0 own m.0 c.0 rich q (break_touches catalog (is_outside known) (Some p) (set_of known) (dependency catalog m.0) q f.1))

      of_recommendation : (p : ℕ) → Has (packages catalog) p → inside p ≡ true → (y : Query) → Has (recommendation_queries catalog (leaving marks left) known p) y → IsWithin y
      of_recommendation p there own y h =
          let o = of_option (λ a. map (λ d. dependency_query catalog (leaving marks left) known (question.Recommends p d) d) a.recommends) (package_at catalog p) y h in
          let m = of_mapped (λ d. dependency_query catalog (leaving marks left) known (question.Recommends p d) d) (o.0).recommends y o.1.1 in
          subst IsWithin m.1.1 (taken_inside p o.0 there o.1.0 own m.0 (has_back (map (λ z. z.dep) (o.0).requires_) (o.0).recommends m.0 m.1.0) (question.Recommends p m.0))

      of_supplement : (p : ℕ) (y : Query) → Has (supplement_query catalog (leaving marks left) known p) y → IsWithin y
      of_supplement p y h =
          let o = of_option _ (package_at catalog p) y h in
          elim o.1.1 [
            | inl e ↦ subst IsWithin e (λ q k.
                let list : List ℕ = filter (may_supplement catalog known p) (packages catalog) in
                let f = of_filtered (may_supplement catalog known p) (packages catalog) q (sorted_has (policy_cmp catalog (leaving marks left) Other list) list q k) in
                let two = and_parts (same_name catalog p q) _ f.1 in
                let three = and_parts _ _ two.1 in
                let four = and_parts (not (is_installed catalog q)) (is_supplementing catalog known q) three.1 in
                ap not (out.offered q (passes_wider (package_at catalog q) (λ a. list_any (λ d. holds catalog (dependency catalog d) (set_of known)) a.supplements) (λ a. list_any (λ x. true) a.supplements) (λ a s. some_there (λ d. holds catalog (dependency catalog d) (set_of known)) a.supplements s) four.1)))
            | inr n ↦ absurd n
          ]

      of_package : (p : ℕ) → Has (packages catalog) p → inside p ≡ true → (y : Query) → Has (queries_of_package catalog (leaving marks left) known p) y → IsWithin y
      of_package p there own y h = elim (has_split (requirement_queries catalog (leaving marks left) known p) (conflict_queries catalog (leaving marks left) known p) y h) [
        | inl k ↦ of_requirement p there own y k
        | inr k ↦ of_conflict p there own y k
      ]

      of_one : (p : ℕ) → is_installed catalog p ≡ true → (y : Query) → Has (queries_of_installed catalog flags (leaving marks left) rules (set_of known) p) y → IsWithin y
      of_one p installed y k = elim (has_split (flat_map (best_update_query catalog (leaving marks left) (set_of known) p) rules) _ y k) [
        | inl m ↦ let g = of_flat (best_update_query catalog (leaving marks left) (set_of known) p) rules y m in of_best_update p g.0 g.1.0 y g.1.1
        | inr m ↦ elim (of_when (not (marked marks.erased p)) (keep_query catalog flags (leaving marks left) rules (set_of known) p ∷ []) y m).0 [ inl e ↦ subst IsWithin e (of_keep p installed) | inr n ↦ absurd n ]
      ]

      of_installed : (y : Query) → Has (installed_queries catalog flags (leaving marks left) rules (set_of known)) y → IsWithin y
      of_installed y k = elim (has_split (flat_map (queries_of_installed catalog flags (leaving marks left) rules (set_of known)) (filter (λ p. is_installed catalog p && is_to_move (leaving marks left) p) (packages catalog))) _ y k) [
        | inl m ↦
            let f = of_flat (queries_of_installed catalog flags (leaving marks left) rules (set_of known)) (filter (λ p. is_installed catalog p && is_to_move (leaving marks left) p) (packages catalog)) y m in
            of_one f.0 (and_parts (is_installed catalog f.0) _ (of_filtered (λ p. is_installed catalog p && is_to_move (leaving marks left) p) (packages catalog) f.0 f.1.0).1).0 y f.1.1
        | inr m ↦
            let f = of_flat (queries_of_installed catalog flags (leaving marks left) rules (set_of known)) (filter (λ p. is_installed catalog p && not (is_to_move (leaving marks left) p)) (packages catalog)) y m in
            of_one f.0 (and_parts (is_installed catalog f.0) _ (of_filtered (λ p. is_installed catalog p && not (is_to_move (leaving marks left) p)) (packages catalog) f.0 f.1.0).1).0 y f.1.1
      ]

      of_jobs : (y : Query) → Has (flat_map (λ job. queries_of_job catalog (leaving marks left) (set_of known) rules job.0) (numbered_jobs jobs)) y → IsWithin y
      of_jobs y k =
          let f = of_flat (λ job. queries_of_job catalog (leaving marks left) (set_of known) rules job.0) (numbered_jobs jobs) y k in
          elim (has_split (flat_map (best_job_query catalog (leaving marks left) (set_of known) (f.0).0) rules) (flat_map (job_query catalog (leaving marks left) (set_of known) (f.0).0) rules) y f.1.1) [
            | inl m ↦ let g = of_flat (best_job_query catalog (leaving marks left) (set_of known) (f.0).0) rules y m in of_best_job (f.0).0 g.0 g.1.0 y g.1.1
            | inr m ↦ let g = of_flat (job_query catalog (leaving marks left) (set_of known) (f.0).0) rules y m in of_job (f.0).0 g.0 g.1.0 y g.1.1
          ]

      -- of all questions, where what is known in is inside
      pub all_within : (y : Query) → Has (queries request rules known) y → IsWithin y
      all_within y h =
          let first : List Query = flat_map (λ job. queries_of_job catalog (leaving marks left) (set_of known) rules job.0) (numbered_jobs jobs) in
          let installed : List Query = installed_queries catalog flags (leaving marks left) rules (set_of known) in
          let required : List Query = package_queries catalog (leaving marks left) known in
          let recommended : List Query = recommended_queries catalog (leaving marks left) known in
          let supplements : List Query = supplement_queries catalog (leaving marks left) known in
          let more : List Query = when (not flags.ignore_recommended) (recommended ++ supplements) in
          elim (has_split first (installed ++ (required ++ more)) y h) [
            | inl k ↦ of_jobs y k
            | inr k1 ↦ elim (has_split installed (required ++ more) y k1) [
              | inl k ↦ of_installed y k
              | inr k2 ↦ elim (has_split required more y k2) [
                | inl k ↦
                    let f = of_flat (queries_of_package catalog (leaving marks left) known) (filter (set_of known) (packages catalog)) y k in
                    let there = of_filtered (set_of known) (packages catalog) f.0 f.1.0 in
                    of_package f.0 there.0 (sure f.0 there.1) y f.1.1
                | inr k3 ↦ elim (has_split recommended supplements y (of_when (not flags.ignore_recommended) (recommended ++ supplements) y k3).0) [
                  | inl k ↦
                      let f = of_flat (recommendation_queries catalog (leaving marks left) known) (filter (λ p. set_of known p && not (is_installed catalog p)) (packages catalog)) y k in
                      let there = of_filtered (λ p. set_of known p && not (is_installed catalog p)) (packages catalog) f.0 f.1.0 in
                      of_recommendation f.0 there.0 (sure f.0 (and_parts (set_of known f.0) _ there.1).0) y f.1.1
                  | inr k ↦ let f = of_flat (supplement_query catalog (leaving marks left) known) (filter (is_first_of_name catalog) (packages catalog)) y k in of_supplement f.0 y f.1.1
                ]
              ]
            ]
          ]

      -- so what is asked for is inside
      pub asked_inside : (a : Ask) → first_ask known (queries request rules known) ≡ Some a → inside a.pack ≡ true
      asked_inside a some = let answer = ask_some known (queries request rules known) a some in all_within answer.query answer.there a.pack answer.candidate
