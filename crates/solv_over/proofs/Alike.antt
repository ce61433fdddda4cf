-- The questions of a task ask the same with the rules that are made and with all, where nothing that is left out is known in.
use Rattle.std.proofs.Common.{◌≡◌, ◌⊎◌, ℕ, zero, suc, Bool, true, false, not, ◌&&◌, ◌||◌, List, [], ◌∷◌, ◌++◌, map, Option, Some, None, inl, inr, refl, sym, ◌∙◌, ap, subst, cond, if◌then◌else◌}
use Rattle.std.specs.Prelude.{ℤ, pos, negsuc, neg_ℤ, filter, flat_map, find, option_map, option_and_then, ◌==◌}
use Rattle.std.specs.Option.{option_map_or}
use Rattle.std.specs.List.{list_any, list_all}
use Rattle.std.proofs.lemmas.Bool.{and_parts, or_cases, cases_Bool, false≢true, eqb-true}
use mathlib.Core.Path.{fun_ext}
use Rattle.solv_list.proofs.Booleans.{false_of_not}
use Rattle.solv_pool.specs.Prelude.{package_wise, when, passes, is_among, Catalog, packages, package_at, dependency, is_installed, same_name, holds, leaving_out, counted_requirements, counted_rich_conflicts, successors, feature_candidates, marked, is_to_move, is_fact, HardRule, req}
use Rattle.solv_pool.specs.Counting.{requirement_counts, rich_conflict_counts}
use Rattle.solv_pool.specs.Inner.HardRules.{numbered_jobs}
use Rattle.solv_pool.specs.Installable.{is_installable}
use Rattle.solv_pool.specs.Laws.{said}
use Rattle.solv_pool.specs.Needs.{asked_by}
use Rattle.solv_pool.specs.declared.jobs.Job.{Job}
use Rattle.solv_pool.specs.declared.job_marks.Marks.{Marks}
use Rattle.solv_pool.specs.declared.packages.Need.{Need}
use Rattle.solv_pool.specs.declared.packages.Package.{Package}
use Rattle.solv_pool.specs.declared.tasks.Flags.{Flags}
use Rattle.solv_pool.proofs.Members.{Has, has_back, of_filtered}
use Rattle.solv_policy.specs.Policy.{by_policy}
use Rattle.solv_policy.specs.declared.policy.Asked.TheVariants.{Kept, Other}
use Rattle.solv_trail.specs.Asked.{set_of}
use Rattle.solv_trail.specs.declared.questions.Ask.{Ask}
use Rattle.solv_trail.specs.declared.questions.Question.{Question}
use Rattle.solv_trail.specs.declared.questions.Question.TheVariants as question
use Rattle.solv_questions.specs.Candidates.{may_take, may_break}
use Rattle.solv_questions.specs.Questions.{Request, Query, rules_of, enabled_from, is_outside, is_open, is_update_of, is_feature_of, query_at, best_job_query, job_query, queries_of_job, best_update_query, far_candidates, keep_query, queries_of_installed, installed_queries, requirement_queries, conflict_queries, recommendation_queries, package_queries, recommended_queries, supplement_query, supplement_queries, queries, first_ask, asks}
use Rattle.solv_questions.specs.Inner.Questions.{is_first_of_name}
use Rattle.solv_questions.proofs.Origins.{of_enabled}
use Rattle.solv_leaving.specs.Inner.Leaving.{leaving, is_plainly_met}
use Rattle.solv_over.specs.Inner.Widened.{says_in, says_out, AreInside, AreWidened}
use Rattle.solv_over.specs.Inner.Trails.{GuideAlike}
use Rattle.solv_leaving.specs.Inner.Leaving.{touches, LeavesOut}
use Rattle.solv_over.specs.Inner.Thinned.{IsRequirementOf, Thinned, end, same, more}
use Rattle.solv_over.proofs.Choices.{same_fact}
use Rattle.solv_over.proofs.Standing.{asked_with, required_asked, untouched_asked, untouched_conflict}
use Rattle.solv_over.proofs.Taking.{ap_two, take_same, break_same, take_plain}
use Rattle.solv_over.proofs.Asking.{all_within, asked_inside}

-- lists made of rules that requirements have no part in
pub flat_thin : {X : Type 0} (left : List Bool) (f : HardRule → List X) → ((p d : ℕ) → f (req p d) ≡ []) → {made all : List HardRule} → Thinned left made all → flat_map f all ≡ flat_map f made
flat_thin left f none end = refl
flat_thin left f none (same x t) = ap (λ zs. f x ++ zs) (flat_thin left f none t)
flat_thin left f none (more {made} {all} x own t) = ap (λ zs. zs ++ flat_map f all) (ap f (sym own.is) ∙ none own.pack own.dep) ∙ flat_thin left f none t

pub any_thin : (left : List Bool) (f : HardRule → Bool) → ((p d : ℕ) → f (req p d) ≡ false) → {made all : List HardRule} → Thinned left made all → list_any f all ≡ list_any f made
any_thin left f none end = refl
any_thin left f none (same x t) = ap (λ b. f x || b) (any_thin left f none t)
any_thin left f none (more {made} {all} x own t) = ap (λ b. b || list_any f all) (ap f (sym own.is) ∙ none own.pack own.dep) ∙ any_thin left f none t

-- the same on each member
flat_by : {X Y : Type 0} (f g : X → List Y) (xs : List X) → ((x : X) → Has xs x → f x ≡ g x) → flat_map f xs ≡ flat_map g xs
flat_by f g [] h = refl
flat_by f g (x ∷ xs) h = ap_two (λ a b. a ++ b) (h x (inl refl)) (flat_by f g xs (λ y k. h y (inr k)))

map_by : {X Y : Type 0} (f g : X → Y) (xs : List X) → ((x : X) → Has xs x → f x ≡ g x) → map f xs ≡ map g xs
map_by f g [] h = refl
map_by f g (x ∷ xs) h = ap_two (λ a b. a ∷ b) (h x (inl refl)) (map_by f g xs (λ y k. h y (inr k)))

option_by : {X Y : Type 0} (f g : X → List Y) (o : Option X) → ((x : X) → o ≡ Some x → f x ≡ g x) → option_map_or f o [] ≡ option_map_or g o []
option_by f g None h = refl
option_by f g (Some x) h = h x refl

-- the first question that is open, where candidates are known out alike
module _ (known more : ℤ → Bool) where
  abbrev AreSo : List ℕ → Type 0
  AreSo xs = (q : ℕ) → Has xs q → is_outside more q ≡ is_outside known q

  any_so : (xs : List ℕ) → AreSo xs → list_any (λ p. not (is_outside more p)) xs ≡ list_any (λ p. not (is_outside known p)) xs
  any_so [] h = refl
  any_so (x ∷ xs) h = ap_two (λ a b. not a || b) (h x (inl refl)) (any_so xs (λ y k. h y (inr k)))

  find_so : (xs : List ℕ) → AreSo xs → find (λ p. not (is_outside more p)) xs ≡ find (λ p. not (is_outside known p)) xs
  find_so [] h = refl
  find_so (x ∷ xs) h = ap_two (λ a o. if not a then Some x else o) (h x (inl refl)) (find_so xs (λ y k. h y (inr k)))

  abbrev answer : (ℤ → Bool) → Query → Option Ask
  answer k q = option_map (λ p. record { pack = p; question = q.question }) (find (λ p. not (is_outside k p)) q.candidates)

  first_so : (qs : List Query) → ((y : Query) → Has qs y → AreSo y.candidates) → first_ask more qs ≡ first_ask known qs
  first_so [] h = refl
  first_so (y ∷ qs) h =
      let open_ : is_open more y ≡ is_open known y = ap (λ b. not y.met && b) (any_so y.candidates (h y (inl refl))) in
      ap (λ b. option_and_then (answer more) (if b then Some y else find (is_open more) qs)) open_ ∙ by (is_open known y) (first_so qs (λ z k. h z (inr k)))
    where
      by : (b : Bool) → first_ask more qs ≡ first_ask known qs → option_and_then (answer more) (if b then Some y else find (is_open more) qs) ≡ option_and_then (answer known) (if b then Some y else find (is_open known) qs)
      by true rest = ap (λ o. option_map (λ p. record { pack = p; question = y.question }) o) (find_so y.candidates (h y (inl refl)))
      by false rest = rest

module _ (catalog : Catalog) (flags : Flags) (jobs : List Job) (marks : Marks) (left : List Bool) (out : LeavesOut catalog flags jobs marks left) where
  abbrev inside : ℕ → Bool
  inside p = not (marked left p)

  abbrev some : Marks
  some = leaving marks left

  abbrev whole : Marks
  whole = leaving marks []

  abbrev request : Request
  request = asked_with catalog flags jobs marks left out

  abbrev pub request_all : Request
  request_all = record { catalog = catalog; flags = flags; jobs = jobs; marks = leaving marks [] }

  module _ (made all : List HardRule) (thin : Thinned left made all) where
    jobs_alike : (s : ℕ → Bool) → flat_map (λ job. queries_of_job catalog whole s all job.0) (numbered_jobs jobs) ≡ flat_map (λ job. queries_of_job catalog some s made job.0) (numbered_jobs jobs)
    jobs_alike s = flat_by (λ job. queries_of_job catalog whole s all job.0) (λ job. queries_of_job catalog some s made job.0) (numbered_jobs jobs) (λ job h.
        ap_two (λ a b. a ++ b) (flat_thin left (best_job_query catalog some s job.0) (λ p d. refl) thin) (flat_thin left (job_query catalog some s job.0) (λ p d. refl) thin))

    -- whether p is kept, by whether rules hold it
    abbrev keep_by : (ℕ → Bool) → ℕ → Bool → Bool → Query
    keep_by s p u v = record {
      question = question.Keep p;
      candidates = by_policy catalog some (Kept p) (successors catalog flags some p) ++ when (not u && (marked marks.dup p || v)) (far_candidates catalog flags some p);
      met = list_any s (if u then successors catalog flags some p else feature_candidates catalog flags some p);
    }

    keep_alike : (s : ℕ → Bool) (p : ℕ) → keep_query catalog flags whole all s p ≡ keep_query catalog flags some made s p
    keep_alike s p = ap_two (keep_by s p) (any_thin left (is_update_of p) (λ q d. refl) thin) (any_thin left (is_feature_of p) (λ q d. refl) thin)

    one_alike : (s : ℕ → Bool) (p : ℕ) → queries_of_installed catalog flags whole all s p ≡ queries_of_installed catalog flags some made s p
    one_alike s p = ap_two (λ a (k : Query). a ++ when (not (marked marks.erased p)) (k ∷ [])) (flat_thin left (best_update_query catalog some s p) (λ q d. refl) thin) (keep_alike s p)

    installed_alike : (s : ℕ → Bool) → installed_queries catalog flags whole all s ≡ installed_queries catalog flags some made s
    installed_alike s =
        ap_two (λ a b. a ++ b)
        (flat_by (queries_of_installed catalog flags whole all s) (queries_of_installed catalog flags some made s) (filter (λ p. is_installed catalog p && is_to_move marks p) (packages catalog)) (λ p h. one_alike s p))
        (flat_by (queries_of_installed catalog flags whole all s) (queries_of_installed catalog flags some made s) (filter (λ p. is_installed catalog p && not (is_to_move marks p)) (packages catalog)) (λ p h. one_alike s p))

  module _ (facts others : List ℤ) (w : AreWidened (marked left) facts others) where
    abbrev known : ℤ → Bool
    known = is_fact facts

    abbrev wider : ℤ → Bool
    wider = is_fact others

    set_alike : set_of wider ≡ set_of known
    set_alike = fun_ext (λ p. ap (λ b. (p == 0) || b) (same_fact (marked left) facts others w (pos p) (λ h. false≢true h)))

    sure : (p : ℕ) → set_of known p ≡ true → inside p ≡ true
    sure p h = elim (or_cases (p == 0) (known (pos p)) h) [
      | inl z ↦ ap inside (eqb-true p 0 z) ∙ ap not out.system
      | inr k ↦ ap not (w.inside.none (pos p) k)
    ]

    outside_alike : (p : ℕ) → inside p ≡ true → is_outside wider p ≡ is_outside known p
    outside_alike p own = ap (λ b. not (p == 0) && b) (same_fact (marked left) facts others w (neg_ℤ (pos p)) (not_out p own))
      where
        not_out : (p : ℕ) → inside p ≡ true → says_out (marked left) (neg_ℤ (pos p)) ≡ true → ⊥
        not_out zero own h = false≢true h
        not_out (suc k) own h = false≢true (sym (false_of_not (marked left (suc k)) own) ∙ h)

    -- a question on a dependency, by the set and what may be taken
    abbrev query_by : Question → Option ℕ → Bool → ℕ → (ℕ → Bool) → (ℕ → Bool) → Query
    query_by x without_ at d s test = record { question = x; candidates = by_policy catalog some Other (filter test (packages catalog)); met = said at (holds catalog (dependency catalog d) (leaving_out without_ s)) }

    taking_alike : (x : Question) (d : ℕ) → ((q : ℕ) → may_take catalog (is_outside wider) None (set_of known) (dependency catalog d) q ≡ may_take catalog (is_outside known) None (set_of known) (dependency catalog d) q)
        → query_at catalog whole wider x None true d ≡ query_at catalog some known x None true d
    taking_alike x d h =
        ap (λ s. query_by x None true d s (may_take catalog (is_outside wider) None s (dependency catalog d))) set_alike
        ∙ ap (query_by x None true d (set_of known)) (fun_ext h)

    breaking_alike : (x : Question) (p d : ℕ) → ((q : ℕ) → may_break catalog (is_outside wider) (Some p) (set_of known) (dependency catalog d) q ≡ may_break catalog (is_outside known) (Some p) (set_of known) (dependency catalog d) q)
        → query_at catalog whole wider x (Some p) false d ≡ query_at catalog some known x (Some p) false d
    breaking_alike x p d h =
        ap (λ s. query_by x (Some p) false d s (may_break catalog (is_outside wider) (Some p) s (dependency catalog d))) set_alike
        ∙ ap (query_by x (Some p) false d (set_of known)) (fun_ext h)

    module _ (p : ℕ) (a : Package) (there : Has (packages catalog) p) (at : package_at catalog p ≡ Some a) (own : inside p ≡ true) where
      asked_alike : (x : Question) (d : ℕ) → Has (asked_by a) d → query_at catalog whole wider x None true d ≡ query_at catalog some known x None true d
      asked_alike x d asked = taking_alike x d (λ q. elim (cases_Bool (is_plainly_met (dependency catalog d))) [
        | inl plain ↦ take_plain catalog (is_outside known) (is_outside wider) None (set_of known) (dependency catalog d) plain q
        | inr rich ↦ take_same catalog (is_outside known) (is_outside wider) None (set_of known) (dependency catalog d) (λ o t. outside_alike o (untouched_asked catalog flags jobs marks left out p a there at own d asked rich o t)) q
      ])

      counted_alike : counted_requirements catalog whole p a ≡ counted_requirements catalog some p a
      counted_alike = ap (λ b. filter (λ (need : Need). not b && requirement_counts catalog whole p need.dep) a.requires_) (sym (false_of_not (marked left p) own))

      requirements_alike : map (λ need. query_at catalog whole wider (question.Requires p need.dep) None true need.dep) (counted_requirements catalog whole p a) ≡ map (λ need. query_at catalog some known (question.Requires p need.dep) None true need.dep) (counted_requirements catalog some p a)
      requirements_alike =
          ap (λ needs. map (λ need. query_at catalog whole wider (question.Requires p need.dep) None true need.dep) needs) counted_alike
          ∙ map_by (λ need. query_at catalog whole wider (question.Requires p need.dep) None true need.dep) (λ need. query_at catalog some known (question.Requires p need.dep) None true need.dep) (counted_requirements catalog some p a)
          (λ need h. asked_alike (question.Requires p need.dep) need.dep (required_asked catalog flags jobs marks left out a need (of_filtered (λ (n : Need). requirement_counts catalog some p n.dep) a.requires_ need h).0))

      conflicts_alike : map (λ d. query_at catalog whole wider (question.Conflicts p d) (Some p) false d) (counted_rich_conflicts catalog whole p a) ≡ map (λ d. query_at catalog some known (question.Conflicts p d) (Some p) false d) (counted_rich_conflicts catalog some p a)
      conflicts_alike =
          map_by (λ d. query_at catalog whole wider (question.Conflicts p d) (Some p) false d) (λ d. query_at catalog some known (question.Conflicts p d) (Some p) false d) (counted_rich_conflicts catalog some p a)
          (λ d h.
          let c = of_filtered (λ x. not (package_wise (dependency catalog x)) && rich_conflict_counts catalog some p x) a.conflicts d h in
          let rich : package_wise (dependency catalog d) ≡ false = false_of_not (package_wise (dependency catalog d)) (and_parts (not (package_wise (dependency catalog d))) _ c.1).0 in
          breaking_alike (question.Conflicts p d) p d (break_same catalog (is_outside known) (is_outside wider) (Some p) (set_of known) (dependency catalog d) (λ o t. outside_alike o (untouched_conflict catalog flags jobs marks left out p a there at own d c.0 rich o t))))

      recommends_alike : map (λ d. query_at catalog whole wider (question.Recommends p d) None true d) a.recommends ≡ map (λ d. query_at catalog some known (question.Recommends p d) None true d) a.recommends
      recommends_alike =
          map_by (λ d. query_at catalog whole wider (question.Recommends p d) None true d) (λ d. query_at catalog some known (question.Recommends p d) None true d) a.recommends
          (λ d h. asked_alike (question.Recommends p d) d (has_back (map (λ (z : Need). z.dep) a.requires_) a.recommends d h))

    package_alike : (p : ℕ) → Has (packages catalog) p → inside p ≡ true
        → (requirement_queries catalog whole wider p ++ conflict_queries catalog whole wider p) ≡ (requirement_queries catalog some known p ++ conflict_queries catalog some known p)
    package_alike p there own = ap_two (λ a b. a ++ b)
        (option_by _ _ (package_at catalog p) (λ a at. requirements_alike p a there at own))
        (option_by _ _ (package_at catalog p) (λ a at. conflicts_alike p a there at own))

    packages_alike : package_queries catalog whole wider ≡ package_queries catalog some known
    packages_alike =
        ap (λ s. flat_map (λ p. requirement_queries catalog whole wider p ++ conflict_queries catalog whole wider p) (filter s (packages catalog))) set_alike
        ∙ flat_by (λ p. requirement_queries catalog whole wider p ++ conflict_queries catalog whole wider p) (λ p. requirement_queries catalog some known p ++ conflict_queries catalog some known p) (filter (set_of known) (packages catalog))
        (λ p h. let f = of_filtered (set_of known) (packages catalog) p h in package_alike p f.0 (sure p f.1))

    recommended_alike : recommended_queries catalog whole wider ≡ recommended_queries catalog some known
    recommended_alike =
        ap (λ (s : ℕ → Bool). flat_map (recommendation_queries catalog whole wider) (filter (λ p. s p && not (is_installed catalog p)) (packages catalog))) set_alike
        ∙ flat_by (recommendation_queries catalog whole wider) (recommendation_queries catalog some known) (filter (λ p. set_of known p && not (is_installed catalog p)) (packages catalog))
        (λ p h.
        let f = of_filtered (λ p. set_of known p && not (is_installed catalog p)) (packages catalog) p h in
        option_by _ _ (package_at catalog p) (λ a at. recommends_alike p a f.0 at (sure p (and_parts (set_of known p) _ f.1).0)))

    abbrev may_by : (ℕ → Bool) → ℕ → ℕ → Bool
    may_by s p q = same_name catalog p q && (is_installable catalog q && (not (is_installed catalog q) && passes (package_at catalog q) (λ a. list_any (λ d. holds catalog (dependency catalog d) s) a.supplements)))

    abbrev supplement_by : (ℕ → Bool) → ℕ → List Query
    supplement_by s p = option_map_or (λ a. record {
      question = question.Supplements a.name;
      candidates = by_policy catalog some Other (filter (may_by s p) (packages catalog));
      met = list_any (λ q. same_name catalog p q && s q) (packages catalog);
    } ∷ []) (package_at catalog p) []

    supplements_alike : supplement_queries catalog whole wider ≡ supplement_queries catalog some known
    supplements_alike = ap (λ s. flat_map (supplement_by s) (filter (is_first_of_name catalog) (packages catalog))) set_alike

    module _ (made all : List HardRule) (thin : Thinned left made all) where
      pub queries_alike : queries request_all all wider ≡ queries request made known
      queries_alike =
          ap_two (λ a b. a ++ b) (ap (λ s. flat_map (λ job. queries_of_job catalog whole s all job.0) (numbered_jobs jobs)) set_alike ∙ jobs_alike made all thin (set_of known))
          (ap_two (λ a b. a ++ b) (ap (installed_queries catalog flags whole all) set_alike ∙ installed_alike made all thin (set_of known))
          (ap_two (λ a b. a ++ b) packages_alike
          (ap (λ zs. when (not flags.ignore_recommended) zs) (ap_two (λ a b. a ++ b) recommended_alike supplements_alike))))

      pub ask_alike : ((x : HardRule) → Has made x → Has (rules_of request) x) → first_ask wider (queries request_all all wider) ≡ first_ask known (queries request made known)
      ask_alike of_made =
          ap (first_ask wider) queries_alike
          ∙ first_so known wider (queries request made known) (λ y h q k. outside_alike q (all_within catalog flags jobs marks left out known made of_made sure y h q k))

  itself : (facts : List ℤ) → AreInside (marked left) facts → AreWidened (marked left) facts facts
  itself facts inside_ = record { keeps = λ l h. h; adds = λ l h. inl h; inside = inside_ }

  -- the questions with what is enabled of the rules that are made, and of all
  pub guide_alike : (on on_all : List Bool) → Thinned left (enabled_from on 0 (rules_of request)) (enabled_from on_all 0 (rules_of request_all))
      → GuideAlike (marked left) (λ known. asks request known on) (λ known. asks request_all known on_all)
  guide_alike on on_all thin = record {
    same = λ facts others w. ask_alike facts others w (enabled_from on 0 (rules_of request)) (enabled_from on_all 0 (rules_of request_all)) thin (λ x h. of_enabled on 0 (rules_of request) x h);
    inside = λ facts own a some_. false_of_not (marked left a.pack)
        (asked_inside catalog flags jobs marks left out (is_fact facts) (enabled_from on 0 (rules_of request)) (λ x h. of_enabled on 0 (rules_of request) x h) (sure facts facts (itself facts own)) a some_);
  }
