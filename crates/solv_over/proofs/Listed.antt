-- Problems over the made rules of a task, with their solutions, are problems over all its hard rules.
use Rattle.std.proofs.Common.{◌≡◌, ℕ, zero, suc, ◌+◌, ◌<◌, Bool, true, false, not, ◌&&◌, ◌||◌, List, [], ◌∷◌, ◌++◌, map, filter, inl, inr, refl, sym, ◌∙◌, ap, subst, length, arith, cond}
use Rattle.std.specs.Prelude.{ℤ, flat_map, ◌==◌}
use Rattle.std.specs.List.{list_all, enumerate_from, range_with_len, AllZip}
use Rattle.std.proofs.lemmas.Bool.{and_parts, and_from}
use Rattle.std.proofs.lemmas.List.{length-map}
use Rattle.solv_list.proofs.Booleans.{false_of_not}
use Rattle.solv_pool.specs.Prelude.{Catalog, marked, rule_clauses, clause_true, HardRule, is_fixed, meets_rule, is_fact, is_among, is_over, names_package}
use Rattle.solv_pool.specs.Laws.{ClausesNamePackages, ClausesSayTheRule}
use Rattle.solv_pool.specs.declared.jobs.Job.{Job}
use Rattle.solv_pool.specs.declared.job_marks.Marks.{Marks}
use Rattle.solv_pool.specs.declared.tasks.Flags.{Flags}
use Rattle.solv_pool.proofs.Members.{Has, all_at, all_by, among_has, has_flat, of_filtered}
use Rattle.solv_rules.specs.Books.{is_bookable, owners_from, rises}
use Rattle.solv_derive.proofs.Facts.{all_member, known_here, known_later}
use Rattle.solv_trail.specs.Asked.{is_enabled, set_of}
use Rattle.solv_core.specs.Cores.{CoreOf}
use Rattle.solv_core.specs.GoodTrails.{facts_of}
use Rattle.solv_questions.specs.Questions.{Request, rules_of}
use Rattle.solv_questions.proofs.Origins.{of_enabled}
use Rattle.solv_decide.specs.Deciding.{IsRefuted, meets_all, rules_on}
use Rattle.solv_leaving.specs.Inner.Leaving.{LeavesOut}
use Rattle.solv_remedy.specs.Problems.{meets_listed}
use Rattle.solv_remedy.specs.Remedies.{others, is_once, firsts, may_drop, blamed, all_blamed, all_rules_but, MeetsWithout, IsGoodProblem, held_beside, IsGoodSolution, IsGoodList}
use Rattle.solv_remedy.specs.declared.problems.Problem.{Problem}
use Rattle.solv_remedy.specs.declared.problems.Solution.{Solution}
use Rattle.solv_over.specs.Inner.Places.{log_at, problem_at, solution_at}
use Rattle.solv_over.specs.Inner.Thinned.{Thinned, end, same, more}
use Rattle.solv_over.proofs.Alike.{request_all}
use Rattle.solv_over.proofs.Back.{map_back, place_back, drop_same, rises_at}
use Rattle.solv_over.proofs.Flagging.{flags_like}
use Rattle.solv_over.proofs.Numbered.{has_among}
use Rattle.solv_over.proofs.Logged.{log_good, over_same, trimmed_same}
use Rattle.solv_over.proofs.Placing.{place, place_rises, thin_like, clause_at, stand}
use Rattle.solv_over.proofs.Refuted.{among_at, filter_at, map_append, same_number}
use Rattle.solv_over.proofs.Standing.{asked_with}
use Rattle.solv_over.proofs.Taking.{ap_two}
use Rattle.solv_over.proofs.Thinning.{made_among}
use Rattle.solv_over.proofs.Unmade.{made_or_not, unmade_met}
use Rattle.solv_over.proofs.Whole.{well, beside_on, nothing_out, solution_of_all, refuted_of_all, rested_of_all}
use Rattle.solv_over.proofs.Without.{set_same, without, clause_without}

-- what holds of two lists pair by pair, of both moved
zip_moved : {X Y U V : Type 0} (P : X → Y → Type 0) (Q : U → V → Type 0) (f : X → U) (g : Y → V) (xs : List X) (ys : List Y) → ((x : X) (y : Y) → P x y → Q (f x) (g y)) → AllZip P xs ys → AllZip Q (map f xs) (map g ys)
zip_moved P Q f g [] [] h z = z
zip_moved P Q f g [] (y ∷ ys) h z = absurd z
zip_moved P Q f g (x ∷ xs) [] h z = absurd z
zip_moved P Q f g (x ∷ xs) (y ∷ ys) h z = (h x y z.0, zip_moved P Q f g xs ys h z.1)

zip_both : {X Y : Type 0} (P Q : X → Y → Type 0) (xs : List X) (ys : List Y) → AllZip P xs ys → AllZip Q xs ys → AllZip (λ x y. P x y × Q x y) xs ys
zip_both P Q [] [] z w = z
zip_both P Q [] (y ∷ ys) z w = absurd z
zip_both P Q (x ∷ xs) [] z w = absurd z
zip_both P Q (x ∷ xs) (y ∷ ys) z w = ((z.0, w.0), zip_both P Q xs ys z.1 w.1)

zip_weaker : {X Y : Type 0} (P Q : X → Y → Type 0) (xs : List X) (ys : List Y) → ((x : X) (y : Y) → P x y → Q x y) → AllZip P xs ys → AllZip Q xs ys
zip_weaker P Q [] [] h z = z
zip_weaker P Q [] (y ∷ ys) h z = absurd z
zip_weaker P Q (x ∷ xs) [] h z = absurd z
zip_weaker P Q (x ∷ xs) (y ∷ ys) h z = (h x y z.0, zip_weaker P Q xs ys h z.1)

others_moved : (f : Problem → Problem) (i : ℕ) (xs : List Problem) → others i (map f xs) ≡ map f (others i xs)
others_moved f i [] = refl
others_moved f zero (x ∷ xs) = refl
others_moved f (suc i) (x ∷ xs) = ap (λ zs. f x ∷ zs) (others_moved f i xs)

-- a test of moved numbers
all_moved : (at : ℕ → ℕ) (p q : ℕ → Bool) → ((k : ℕ) → q (at k) ≡ p k) → (xs : List ℕ) → list_all q (map at xs) ≡ list_all p xs
all_moved at p q h [] = refl
all_moved at p q h (x ∷ xs) = ap_two (λ a b. a && b) (h x) (all_moved at p q h xs)

module _ (at : ℕ → ℕ) (up : (k n : ℕ) → k < n → at k < at n) where
  once_moved : (ks : List ℕ) → is_once (map at ks) ≡ is_once ks
  once_moved [] = refl
  once_moved (k ∷ ks) = ap_two (λ a b. not a && b) (among_at at up ks k) (once_moved ks)

-- facts within facts over packages are over them
over_within : (count : ℕ) (facts more_facts : List ℤ) → ((l : ℤ) → is_fact facts l ≡ true → is_fact more_facts l ≡ true) → is_over count more_facts ≡ true → is_over count facts ≡ true
over_within count [] more_facts keeps over = refl
over_within count (x ∷ facts) more_facts keeps over =
    and_from (names_package count x) (is_over count facts) (all_member (names_package count) more_facts over x (keeps x (known_here x facts)))
    (over_within count facts more_facts (λ l h. keeps l (known_later x l facts h)) over)

-- what is met of numbered rules
module _ (meets : HardRule → Bool) where
  abbrev AreMet : List (ℕ × HardRule) → Bool
  AreMet xs = list_all meets (map (λ x. x.1) xs)

  met_parts : (b : Bool) (n : ℕ) (x : HardRule) (xs : List (ℕ × HardRule)) → AreMet (cond b ((n, x) ∷ xs) xs) ≡ true → (b ≡ true → meets x ≡ true) × (AreMet xs ≡ true)
  met_parts true n x xs h = let both = and_parts (meets x) (AreMet xs) h in (λ e. both.0, both.1)
  met_parts false n x xs h = (λ e. absurd (cc), h)

  met_from : (b : Bool) (n : ℕ) (x : HardRule) (xs : List (ℕ × HardRule)) → (b ≡ true → meets x ≡ true) → AreMet xs ≡ true → AreMet (cond b ((n, x) ∷ xs) xs) ≡ true
  met_from true n x xs h k = and_from (meets x) (AreMet xs) (h refl) k
  met_from false n x xs h k = k

  listed_from : {left : List Bool} {made all : List HardRule} (t : Thinned left made all) (p q : ℕ → Bool) (i j : ℕ) → ((k : ℕ) → q (j + place t k) ≡ p (i + k))
      → AreMet (filter (λ x. q x.0) (enumerate_from j all)) ≡ true → AreMet (filter (λ x. p x.0) (enumerate_from i made)) ≡ true
  listed_from end p q i j h all_met = refl
  listed_from (same {made} {all} x t) p q i j h all_met =
      let here : q j ≡ p i = ap q (sym (nothing j)) ∙ h 0 ∙ ap p (nothing i) in
      let both = met_parts (q j) j x (filter (λ z. q z.0) (enumerate_from (j + 1) all)) all_met in
      met_from (p i) i x (filter (λ z. p z.0) (enumerate_from (i + 1) made)) (λ e. both.0 (here ∙ e))
      (listed_from t p q (i + 1) (j + 1) (λ k. ap q (next j (place t k)) ∙ h (suc k) ∙ ap p (sym (next i k))) both.1)
    where
      nothing : (n : ℕ) → n + 0 ≡ n
      nothing n = omega arith

      next : (n k : ℕ) → (n + 1) + k ≡ n + suc k
      next n k = omega arith
  listed_from (more {made} {all} x own t) p q i j h all_met =
      listed_from t p q i (j + 1) (λ k. ap q (next j (place t k)) ∙ h k) (met_parts (q j) j x (filter (λ z. q z.0) (enumerate_from (j + 1) all)) all_met).1
    where
      next : (n k : ℕ) → (n + 1) + k ≡ n + suc k
      next n k = omega arith

-- a set that meets moved rules of all meets the rules of the made ones
pub listed_back : (catalog : Catalog) {left : List Bool} {made all : List HardRule} (t : Thinned left made all) (numbers : List ℕ) (set : ℕ → Bool)
    → meets_listed catalog all (map (place t) numbers) set ≡ true → meets_listed catalog made numbers set ≡ true
listed_back catalog t numbers set h =
    listed_from (λ x. meets_rule catalog x set) t (is_among numbers) (is_among (map (place t) numbers)) 0 0 (λ k. ap (is_among (map (place t) numbers)) (nothing (place t k)) ∙ among_at (place t) (place_rises t) numbers k ∙ ap (is_among numbers) (sym (nothing k))) h
  where
    nothing : (n : ℕ) → 0 + n ≡ n
    nothing n = omega arith

module _ (catalog : Catalog) (flags : Flags) (jobs : List Job) (marks : Marks) (left : List Bool) (out : LeavesOut catalog flags jobs marks left) where
  abbrev made_ : Request
  made_ = asked_with catalog flags jobs marks left out

  abbrev all_ : Request
  all_ = request_all catalog flags jobs marks left out

  abbrev thin : Thinned left (rules_of made_) (rules_of all_)
  thin = made_among catalog flags jobs marks left

  abbrev at : ℕ → ℕ
  at = place thin

  abbrev up : (k n : ℕ) → k < n → at k < at n
  up = place_rises thin

  abbrev moved : Problem → Problem
  moved = problem_at (clause_at catalog thin) at

  abbrev core_of : Request → CoreOf
  core_of r = record { clauses = flat_map (rule_clauses catalog) (rules_of r); owners = owners_from catalog 0 (rules_of r); packages = length catalog.universe.packages }

  -- what moved problems blame
  blamed_moved : (problem : Problem) → blamed all_ (moved problem) ≡ map at (blamed made_ problem)
  blamed_moved problem = filter_at at up (may_drop made_) (may_drop all_) (drop_same thin) problem.rules

  all_blamed_moved : (problems : List Problem) → all_blamed all_ (map moved problems) ≡ map at (all_blamed made_ problems)
  all_blamed_moved [] = refl
  all_blamed_moved (problem ∷ problems) =
      ap_two (λ a b. a ++ b) (blamed_moved problem) (all_blamed_moved problems)
      ∙ sym (map_append at up (blamed made_ problem) (all_blamed made_ problems))

  others_blamed : (problems : List Problem) (i : ℕ) → all_blamed all_ (others i (map moved problems)) ≡ map at (all_blamed made_ (others i problems))
  others_blamed problems i = ap (all_blamed all_) (others_moved moved i problems) ∙ all_blamed_moved (others i problems)

  firsts_moved : (problems : List Problem) → firsts (map (blamed all_) (map moved problems)) ≡ map at (firsts (map (blamed made_) problems))
  firsts_moved [] = refl
  firsts_moved (problem ∷ problems) = ap (λ ks. firsts (ks ∷ map (blamed all_) (map moved problems))) (blamed_moved problem) ∙ by (blamed made_ problem) (firsts_moved problems)
    where
      by : (ks : List ℕ) → firsts (map (blamed all_) (map moved problems)) ≡ map at (firsts (map (blamed made_) problems))
          → firsts (map at ks ∷ map (blamed all_) (map moved problems)) ≡ map at (firsts (ks ∷ map (blamed made_) problems))
      by [] e = e
      by (k ∷ ks) e = ap (λ zs. at k ∷ zs) e

  -- all but moved rules
  but_like : (off off_all : List ℕ) → off_all ≡ map at off → (k : ℕ) → is_enabled (all_rules_but all_ off_all) (at k) ≡ is_enabled (all_rules_but made_ off) k
  but_like off off_all e k = ap (λ o. is_enabled (all_rules_but all_ o) (at k)) e ∙ flags_like thin off k

  dropped_beside : (problems : List Problem) (i : ℕ) (dropped dropped_all : List ℕ) → dropped_all ≡ map at dropped
      → dropped_all ++ all_blamed all_ (others i (map moved problems)) ≡ map at (dropped ++ all_blamed made_ (others i problems))
  dropped_beside problems i dropped dropped_all e =
      ap_two (λ a b. a ++ b) e (others_blamed problems i)
      ∙ sym (map_append at up dropped (all_blamed made_ (others i problems)))

  -- a solution's set holds nothing that is left out
  abbrev IsWithout : Solution → Type 0
  IsWithout s = (p : ℕ) → is_among s.set p ≡ true → marked left p ≡ false

  module _ (names : ClausesNamePackages) (bookable : list_all (is_bookable catalog) (rules_of all_) ≡ true) where
    -- where a set holds nothing that is left out, what it meets of the made rules of a problem it meets of all
    without_moved : (problem : Problem) (k : ℕ) (set : ℕ → Bool) → ((p : ℕ) → set p ≡ true → marked left p ≡ false) → MeetsWithout made_ problem k set → MeetsWithout all_ (moved problem) (at k) set
    without_moved problem k set none met j x there h = elim (place_back thin j x there) [
      | inl m ↦
          let J : ℕ → Type 0 = λ n. (is_fixed x || (is_among (map at problem.rules) n && not (n == at k))) ≡ true in
          met m.0 x m.1.1 (ap (λ b. is_fixed x || b) (ap_two (λ a b. a && not b) (sym (among_at at up problem.rules m.0)) (sym (same_number at up m.0 k))) ∙ subst J (sym m.1.0) h)
      | inr own ↦ unmade_met catalog left set none x own
    ]

    -- a problem, where the sets of its solutions hold nothing that is left out
    pub problem_of_all : (problem : Problem) → IsGoodProblem made_ (core_of made_) problem → AllZip (λ k s. IsWithout s) (blamed made_ problem) problem.solutions → IsGoodProblem all_ (core_of all_) (moved problem)
    problem_of_all problem good none =
        let S : List ℕ → Type 0 = λ ks. AllZip (λ k s. MeetsWithout all_ (moved problem) k (is_among s.set)) ks (map (solution_at (clause_at catalog thin) at) problem.solutions) in
        record {
          none = λ set zero_in h. good.none set zero_in (listed_back catalog thin problem.rules set h);
          good = log_good (core_of made_).clauses (core_of made_).owners (core_of all_).clauses (core_of all_).owners (clause_at catalog thin) at (stand catalog thin) problem.log.steps good.good;
          over = over_same (clause_at catalog thin) (length catalog.universe.packages) problem.log.steps ∙ good.over;
          trimmed = trimmed_same (clause_at catalog thin) problem.log.steps ∙ good.trimmed;
          rests = ap (map at) good.rests ∙ sym (rested_of_all catalog flags jobs marks left out names bookable problem.log.steps);
          solved = subst S (sym (blamed_moved problem)) (zip_moved
              (λ k s. MeetsWithout made_ problem k (is_among s.set) × IsWithout s)
              (λ k s. MeetsWithout all_ (moved problem) k (is_among s.set))
              at (solution_at (clause_at catalog thin) at) (blamed made_ problem) problem.solutions
              (λ k s both. without_moved problem k (is_among s.set) both.1 both.0)
              (zip_both (λ k s. MeetsWithout made_ problem k (is_among s.set)) (λ k s. IsWithout s) (blamed made_ problem) problem.solutions good.solved none));
        }

    module _ (problems : List Problem) (i : ℕ) (problem : Problem) where
      abbrev held : List ℕ → List Bool
      held = held_beside made_ (core_of made_) problems i

      abbrev held_all : List ℕ → List Bool
      held_all = held_beside all_ (core_of all_) (map moved problems) i

      held_like : (dropped dropped_all : List ℕ) → dropped_all ≡ map at dropped → (k : ℕ) → is_enabled (held_all dropped_all) (at k) ≡ is_enabled (held dropped) k
      held_like dropped dropped_all e = but_like (dropped ++ all_blamed made_ (others i problems)) (dropped_all ++ all_blamed all_ (others i (map moved problems))) (dropped_beside problems i dropped dropped_all e)

      -- the set of a good solution is that of its trail
      solution_without : (k : ℕ) (s : Solution) → IsGoodSolution made_ (core_of made_) problems i problem k s → IsWithout s
      solution_without k s good p h =
          let count : ℕ = length catalog.universe.packages in
          let S : List ℕ → Type 0 = λ ps. Has ps p in
          let there = subst S (good.set count good.found.good.over) (among_has s.set p h) in
          nothing_out catalog flags jobs marks left out names bookable (held s.dropped) (held_all (map at s.dropped)) (held_like s.dropped (map at s.dropped) refl) good.trail good.found p
          (of_filtered (set_of (is_fact (facts_of good.trail.events))) (0 ∷ range_with_len 1 count) p there).1

      -- a solution
      pub solution_of_list : (k : ℕ) (s : Solution) → IsGoodSolution made_ (core_of made_) problems i problem k s → IsGoodSolution all_ (core_of all_) (map moved problems) i (moved problem) (at k) (solution_at (clause_at catalog thin) at s)
      solution_of_list k s good =
          let w = solution_of_all catalog flags jobs marks left out names bookable (held s.dropped) (held_all (map at s.dropped)) (held_like s.dropped (map at s.dropped) refl) good.trail good.found in
          let rest : List ℕ = all_blamed made_ (others i problems) in
          record {
            ascending = rises_at at up 0 0 s.dropped (omega arith) good.ascending;
            droppable = all_moved at (may_drop made_) (may_drop all_) (drop_same thin) s.dropped ∙ good.droppable;
            own = filter_at at up (is_among problem.rules) (is_among (map at problem.rules)) (among_at at up problem.rules) s.dropped ∙ ap (map at) good.own;
            of_others = ap (λ zs. list_all (λ d. not (is_among zs d)) (map at s.dropped)) (others_blamed problems i)
                ∙ all_moved at (λ d. not (is_among rest d)) (λ d. not (is_among (map at rest) d)) (λ d. ap not (among_at at up rest d)) s.dropped ∙ good.of_others;
            trail = w.0;
            found = w.1.0;
            set = λ count over.
                good.set count (over_within count (facts_of good.trail.events) (facts_of (w.0).events) w.1.1.keeps over)
                ∙ ap (λ t. filter t (0 ∷ range_with_len 1 count)) (sym (set_same (marked left) good.trail.events (w.0).events w.1.1.same));
            needed = zip_moved
                (λ d log. IsRefuted made_ (held (filter (λ j. not (j == d)) s.dropped)) (core_of made_) log)
                (λ d log. IsRefuted all_ (held_all (filter (λ j. not (j == d)) (map at s.dropped))) (core_of all_) log)
                at (log_at (clause_at catalog thin)) s.dropped s.refuted (λ d log r. refuted_of_all catalog flags jobs marks left out names bookable
                (held (filter (λ j. not (j == d)) s.dropped)) (held_all (filter (λ j. not (j == at d)) (map at s.dropped)))
                (held_like (filter (λ j. not (j == d)) s.dropped) (filter (λ j. not (j == at d)) (map at s.dropped)) (filter_at at up (λ j. not (j == d)) (λ j. not (j == at d)) (λ j. ap not (same_number at up j d)) s.dropped)) log r)
                good.needed;
          }

      solutions_of_list : AllZip (IsGoodSolution made_ (core_of made_) problems i problem) (blamed made_ problem) problem.solutions
          → AllZip (IsGoodSolution all_ (core_of all_) (map moved problems) i (moved problem)) (blamed all_ (moved problem)) (moved problem).solutions
      solutions_of_list good =
          let S : List ℕ → Type 0 = λ ks. AllZip (IsGoodSolution all_ (core_of all_) (map moved problems) i (moved problem)) ks (map (solution_at (clause_at catalog thin) at) problem.solutions) in
          subst S (sym (blamed_moved problem)) (zip_moved (IsGoodSolution made_ (core_of made_) problems i problem) (IsGoodSolution all_ (core_of all_) (map moved problems) i (moved problem))
          at (solution_at (clause_at catalog thin) at) (blamed made_ problem) problem.solutions solution_of_list good)

      problem_of_list : IsGoodProblem made_ (core_of made_) problem → AllZip (IsGoodSolution made_ (core_of made_) problems i problem) (blamed made_ problem) problem.solutions → IsGoodProblem all_ (core_of all_) (moved problem)
      problem_of_list good solved = problem_of_all problem good (zip_weaker (IsGoodSolution made_ (core_of made_) problems i problem) (λ k s. IsWithout s) (blamed made_ problem) problem.solutions solution_without solved)

    module _ (say : ClausesSayTheRule) where
      -- a set that meets some of the made rules meets them without what is left out, and what is not made
      rest_of_all : (on on_all : List Bool) → ((k : ℕ) → is_enabled on_all (at k) ≡ is_enabled on k) → (set : ℕ → Bool) → set 0 ≡ true → meets_all made_ on set ≡ true → meets_all all_ on_all (without (marked left) set) ≡ true
      rest_of_all on on_all like set zero_in h =
          let rest : ℕ → Bool = without (marked left) set in
          all_by (λ x. meets_rule catalog x rest) (rules_on all_ on_all) (λ x there. elim (made_or_not (thin_like thin on on_all like) x there) [
            | inl made ↦ still x made (all_at (λ z. meets_rule catalog z set) (rules_on made_ on) x h made)
            | inr own ↦ unmade_met catalog left rest (λ p k. false_of_not (marked left p) (and_parts (set p) (not (marked left p)) k).1) x own
          ])
        where
          still : (x : HardRule) → Has (rules_on made_ on) x → meets_rule catalog x set ≡ true → meets_rule catalog x (without (marked left) set) ≡ true
          still x made met =
              let placed = well catalog flags jobs marks left out names bookable x (of_enabled on 0 (rules_of made_) x made) in
              let rest : ℕ → Bool = without (marked left) set in
              sym (say catalog rest x (and_from (set 0) (not (marked left 0)) zero_in (ap not out.system)) placed)
              ∙ all_by (clause_true rest) (rule_clauses catalog x) (λ c k.
              clause_without (marked left) set (flat_map (rule_clauses catalog) (rules_on made_ on)) (flat_map (rule_clauses catalog) (rules_on all_ on_all)) (beside_on catalog flags jobs marks left out names bookable on on_all like) c
              (has_among (flat_map (rule_clauses catalog) (rules_on made_ on)) c (has_flat (rule_clauses catalog) (rules_on made_ on) x c made k))
              (all_at (clause_true set) (rule_clauses catalog x) c (say catalog set x zero_in placed ∙ met) k))

      -- a list of problems
      pub list_of_all : (problems : List Problem) → IsGoodList made_ (core_of made_) problems → IsGoodList all_ (core_of all_) (map moved problems)
      list_of_all problems good =
          let many : length (map moved problems) ≡ length problems = length-map problems moved in
          let some = good.some in
          record {
            some = omega (arith, many, some);
            each = λ i problem there.
                let m = map_back moved problems i problem there in
                subst (IsGoodProblem all_ (core_of all_)) m.1.1 (problem_of_list problems i m.0 (good.each i m.0 m.1.0) (good.solutions i m.0 m.1.0));
            solutions = λ i problem there.
                let m = map_back moved problems i problem there in
                let S : Problem → Type 0 = λ z. AllZip (IsGoodSolution all_ (core_of all_) (map moved problems) i z) (blamed all_ z) z.solutions in
                subst S m.1.1 (solutions_of_list problems i m.0 (good.solutions i m.0 m.1.0));
            once = ap is_once (all_blamed_moved problems) ∙ once_moved at up (all_blamed made_ problems) ∙ good.once;
            in_order = ap (rises 0) (firsts_moved problems) ∙ rises_at at up 0 0 (firsts (map (blamed made_) problems)) (omega arith) good.in_order;
            solvable =
                let set = good.solvable.0 in (
                  without (marked left) set,
                  (
                    and_from (set 0) (not (marked left 0)) good.solvable.1.0 (ap not out.system),
                    rest_of_all (all_rules_but made_ (all_blamed made_ problems)) (all_rules_but all_ (all_blamed all_ (map moved problems))) (but_like (all_blamed made_ problems) (all_blamed all_ (map moved problems)) (all_blamed_moved problems)) set good.solvable.1.0 good.solvable.1.1,
                  ),
                );
          }
