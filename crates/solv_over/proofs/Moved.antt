-- What a search over the made rules answers is good over all hard rules, where its numbers are moved to those among all, and where what is not made is enabled before all others.
use Rattle.std.proofs.Common.{◌≡◌, ◌⊎◌, ℕ, zero, suc, ◌+◌, Bool, true, false, not, ◌&&◌, ◌||◌, List, [], ◌∷◌, ◌++◌, map, filter, Option, Some, None, inl, inr, refl, sym, ◌∙◌, ap, subst, length, cond, if◌then◌else◌}
use Rattle.std.specs.Prelude.{◌-◌, flat_map, nat_lt, replicate, slice_get, unwrap_or}
use Rattle.std.specs.List.{list_all, enumerate_from}
use Rattle.std.specs.Option.{option_map_or}
use Rattle.std.proofs.lemmas.Bool.{and_parts, and_from, false≢true}
use Rattle.std.proofs.lemmas.List.{length-map}
use mathlib.Core.Path.{fun_ext}
use Rattle.solv_list.proofs.Lists.{list_all_flat, list_all_map}
use Rattle.solv_pool.specs.Prelude.{when, Catalog, marked, package_at, packages, package_wise, is_inferior, is_asked_exactly, rule_clauses, HardRule, not_installable, req, con, rich_con, obs, same, infarch, update, dup, feature, best_update, is_fixed, is_conflicting, is_obsoleted, is_later_namesake, counted_requirements, counted_rich_conflicts, conflict_rules, rules_asked_by, package_rules, infarch_rules, update_candidates, feature_candidates, successor_rule, successors, kept_packages, update_rules, feature_rules, rule_of_job, job_rules, best_job_rule, best_job_rules, best_update_rules, hard_rules_by}
use Rattle.solv_pool.specs.Best.{best}
use Rattle.solv_pool.specs.Catalog.{dependency, is_installed, members}
use Rattle.solv_pool.specs.Counting.{requirement_counts}
use Rattle.solv_pool.specs.Selections.{selection, selects}
use Rattle.solv_pool.specs.JobKinds.{acts}
use Rattle.solv_pool.specs.Laws.{ClausesNamePackages, ClausesSayTheRule}
use Rattle.solv_pool.specs.declared.jobs.Action.{Action}
use Rattle.solv_pool.specs.declared.jobs.Action.TheVariants.{Install, Erase, Lock, Update}
use Rattle.solv_pool.specs.declared.jobs.Job.{Job}
use Rattle.solv_pool.specs.declared.job_marks.Marks.{Marks}
use Rattle.solv_pool.specs.declared.packages.Need.{Need}
use Rattle.solv_pool.specs.declared.packages.Package.{Package}
use Rattle.solv_pool.specs.declared.tasks.Flags.{Flags}
use Rattle.solv_rules.specs.Books.{is_bookable, owners_from}
use Rattle.solv_trail.specs.Asked.{is_enabled}
use Rattle.solv_core.specs.Cores.{CoreOf}
use Rattle.solv_core.specs.Ledgers.{IsGoodLedger}
use Rattle.solv_core.specs.declared.ledger.Ledger.{Ledger}
use Rattle.solv_core.specs.declared.ledger.Run.{Run}
use Rattle.solv_questions.specs.Questions.{Request, rules_of, asks}
use Rattle.solv_leaving.specs.Inner.Leaving.{leaving, LeavesOut}
use Rattle.solv_remedy.specs.Remedies.{IsGoodList}
use Rattle.solv_remedy.specs.declared.problems.Problem.{Problem}
use Rattle.solv_over.specs.Inner.Places.{is_made, rule_among, clause_among, is_of_inside, put_before, problem_at, entry_at, run_at, ledger_at}
use Rattle.solv_over.specs.Inner.Thinned.{Thinned, end, same, more}
use Rattle.solv_over.proofs.Alike.{request_all}
use Rattle.solv_over.proofs.Back.{map_back}
use Rattle.solv_over.proofs.Flagging.{fixed_at}
use Rattle.solv_over.proofs.Listed.{list_of_all}
use Rattle.solv_over.proofs.Placing.{place, place_rule, clause_at}
use Rattle.solv_over.proofs.Standing.{asked_with}
use Rattle.solv_over.proofs.Thinning.{made_among}
use Rattle.solv_over.proofs.Whole.{ledger_of_all}

-- x is no requirement
abbrev pub is_other : HardRule → Bool
is_other (req p d) = false
is_other _ = true

-- each rule that stands before a requirement may not be dropped
abbrev pub IsLed : List HardRule → Type 0
IsLed [] = Unit {0}
IsLed (x ∷ rules) = ((is_fixed x ≡ true) × IsLed rules) ⊎ (list_all is_other rules ≡ true)

all_append : {X : Type 0} (p : X → Bool) (xs ys : List X) → list_all p xs ≡ true → list_all p ys ≡ true → list_all p (xs ++ ys) ≡ true
all_append p [] ys h k = k
all_append p (x ∷ xs) ys h k = let both = and_parts (p x) (list_all p xs) h in and_from (p x) (list_all p (xs ++ ys)) both.0 (all_append p xs ys both.1 k)

plain_led : (xs : List HardRule) → list_all is_other xs ≡ true → IsLed xs
plain_led [] h = tt
plain_led (x ∷ xs) h = inr (and_parts (is_other x) (list_all is_other xs) h).1

fixed_led : (xs : List HardRule) → list_all is_fixed xs ≡ true → IsLed xs
fixed_led [] h = tt
fixed_led (x ∷ xs) h = let both = and_parts (is_fixed x) (list_all is_fixed xs) h in inl (both.0, fixed_led xs both.1)

led_behind : (xs ys : List HardRule) → IsLed xs → list_all is_other ys ≡ true → IsLed (xs ++ ys)
led_behind [] ys l h = plain_led ys h
led_behind (x ∷ xs) ys (inl m) h = inl (m.0, led_behind xs ys m.1 h)
led_behind (x ∷ xs) ys (inr m) h = inr (all_append is_other xs ys m h)

-- how many of all are not made
abbrev pub unmade : {left : List Bool} {made all : List HardRule} → Thinned left made all → ℕ
unmade end = 0
unmade (same x t) = unmade t
unmade (more x own t) = suc (unmade t)

pub unmade_many : {left : List Bool} {made all : List HardRule} (t : Thinned left made all) → list_all (is_made left) made ≡ true → length (filter (λ x. not (is_made left x)) all) ≡ unmade t
unmade_many end h = refl
unmade_many {left} (same {made} {all} x t) h =
    let both = and_parts (is_made left x) (list_all (is_made left) made) h in
    let others : List HardRule = filter (λ z. not (is_made left z)) all in
    ap (λ b. length (cond (not b) (x ∷ others) others)) both.0 ∙ unmade_many t both.1
unmade_many {left} (more {made} {all} x own t) h =
    let others : List HardRule = filter (λ z. not (is_made left z)) all in
    let out : is_made left x ≡ false = sym (ap (is_made left) own.is) ∙ ap not own.out in
    ap (λ b. length (cond (not b) (x ∷ others) others)) out ∙ ap suc (unmade_many t h)

-- the places of made rules, as they are among all by themselves
pub place_among : {left : List Bool} {made all : List HardRule} (t : Thinned left made all) → list_all (is_made left) made ≡ true → (k : ℕ) → rule_among left all k ≡ place t k
place_among end h k = refl
place_among {left} (same {made} {all} x t) h zero =
    let both = and_parts (is_made left x) (list_all (is_made left) made) h in
    ap (λ b. if b then zero else suc (rule_among left all zero)) both.0
place_among {left} (same {made} {all} x t) h (suc k) =
    let both = and_parts (is_made left x) (list_all (is_made left) made) h in
    ap (λ b. if b then suc (rule_among left all k) else suc (rule_among left all (suc k))) both.0 ∙ ap suc (place_among t both.1 k)
place_among {left} (more {made} {all} x own t) h zero =
    let out : is_made left x ≡ false = sym (ap (is_made left) own.is) ∙ ap not own.out in
    ap (λ b. if b then zero else suc (rule_among left all zero)) out ∙ ap suc (place_among t h zero)
place_among {left} (more {made} {all} x own t) h (suc k) =
    let out : is_made left x ≡ false = sym (ap (is_made left) own.is) ∙ ap not own.out in
    ap (λ b. if b then suc (rule_among left all k) else suc (rule_among left all (suc k))) out ∙ ap suc (place_among t h (suc k))

-- and those of their clauses
pub clause_place_among : (catalog : Catalog) {left : List Bool} {made all : List HardRule} (t : Thinned left made all) → list_all (is_made left) made ≡ true → (k : ℕ) → clause_among catalog left all k ≡ clause_at catalog t k
clause_place_among catalog end h k = refl
clause_place_among catalog {left} (same {made} {all} x t) h k =
    let both = and_parts (is_made left x) (list_all (is_made left) made) h in
    let n : ℕ = length (rule_clauses catalog x) in
    ap (λ b. if b then (if nat_lt k n then k else n + clause_among catalog left all (k - n)) else n + clause_among catalog left all k) both.0
    ∙ ap (λ j. if nat_lt k n then k else n + j) (clause_place_among catalog t both.1 (k - n))
clause_place_among catalog {left} (more {made} {all} x own t) h k =
    let out : is_made left x ≡ false = sym (ap (is_made left) own.is) ∙ ap not own.out in
    let n : ℕ = length (rule_clauses catalog x) in
    ap (λ b. if b then (if nat_lt k n then k else n + clause_among catalog left all (k - n)) else n + clause_among catalog left all k) out
    ∙ ap (λ j. n + j) (clause_place_among catalog t h k)

-- where no requirement is among all, all are made
none_unmade : {left : List Bool} {made all : List HardRule} (t : Thinned left made all) → list_all is_other all ≡ true → unmade t ≡ 0
none_unmade end h = refl
none_unmade (same {made} {all} x t) h = none_unmade t (and_parts (is_other x) (list_all is_other all) h).1
none_unmade (more {made} {all} x own t) h = absurd (false≢true (ap is_other own.is ∙ (and_parts (is_other x) (list_all is_other all) h).0))

place_itself : {left : List Bool} {made all : List HardRule} (t : Thinned left made all) → list_all is_other all ≡ true → (k : ℕ) → place t k ≡ k
place_itself end h k = refl
place_itself (same {made} {all} x t) h zero = refl
place_itself (same {made} {all} x t) h (suc k) = ap suc (place_itself t (and_parts (is_other x) (list_all is_other all) h).1 k)
place_itself (more {made} {all} x own t) h k = absurd (false≢true (ap is_other own.is ∙ (and_parts (is_other x) (list_all is_other all) h).0))

place_first : {left : List Bool} {made all : List HardRule} (x : HardRule) (t : Thinned left made all) → list_all is_other all ≡ true → (k : ℕ) → place (same x t) k ≡ k
place_first x t h zero = refl
place_first x t h (suc k) = ap suc (place_itself t h k)

-- true ones before a true one
one_more : (n : ℕ) (on : List Bool) → put_before n (true ∷ on) ≡ true ∷ put_before n on
one_more zero on = refl
one_more (suc n) on = ap (λ l. true ∷ l) (one_more n on)

-- where each made rule is enabled, all are
pub put_all : {left : List Bool} {made all : List HardRule} (t : Thinned left made all) → put_before (unmade t) (replicate (length made) true) ≡ replicate (length all) true
put_all end = refl
put_all (same {made} x t) = one_more (unmade t) (replicate (length made) true) ∙ ap (λ l. true ∷ l) (put_all t)
put_all (more x own t) = ap (λ l. true ∷ l) (put_all t)

-- each made rule is enabled as it was, where those are that may not be dropped
pub put_like : {left : List Bool} {made all : List HardRule} (t : Thinned left made all) → IsLed all → (on : List Bool) → ((k : ℕ) → fixed_at made k ≡ true → is_enabled on k ≡ true)
    → (k : ℕ) → is_enabled (put_before (unmade t) on) (place t k) ≡ is_enabled on k
put_like end led on h k = refl
put_like (same x t) (inl m) [] h k = absurd (false≢true (h 0 m.0))
put_like (same x t) (inl m) (false ∷ on) h k = absurd (false≢true (h 0 m.0))
put_like (same x t) (inl m) (true ∷ on) h zero = ap (λ l. is_enabled l 0) (one_more (unmade t) on)
put_like (same x t) (inl m) (true ∷ on) h (suc k) = ap (λ l. is_enabled l (suc (place t k))) (one_more (unmade t) on) ∙ put_like t m.1 on (λ i f. h (suc i) f) k
put_like (same x t) (inr m) on h k = ap (λ n. is_enabled (put_before n on) (place (same x t) k)) (none_unmade t m) ∙ ap (is_enabled on) (place_first x t m k)
put_like (more x own t) (inl m) on h k = put_like t m.1 on h k
put_like (more {made} {all} x own t) (inr m) on h k = put_like t (plain_led all m) on h k

-- and each of all is that may not be dropped
pub put_fixed : {left : List Bool} {made all : List HardRule} (t : Thinned left made all) → IsLed all → (on : List Bool) → ((k : ℕ) → fixed_at made k ≡ true → is_enabled on k ≡ true)
    → (k : ℕ) → fixed_at all k ≡ true → is_enabled (put_before (unmade t) on) k ≡ true
put_fixed end led on h k f = h k f
put_fixed (same x t) (inl m) [] h k f = absurd (false≢true (h 0 m.0))
put_fixed (same x t) (inl m) (false ∷ on) h k f = absurd (false≢true (h 0 m.0))
put_fixed (same x t) (inl m) (true ∷ on) h zero f = ap (λ l. is_enabled l 0) (one_more (unmade t) on)
put_fixed (same x t) (inl m) (true ∷ on) h (suc k) f = ap (λ l. is_enabled l (suc k)) (one_more (unmade t) on) ∙ put_fixed t m.1 on (λ i g. h (suc i) g) k f
put_fixed (same {made} {all} x t) (inr m) on h k f =
    let F : Option HardRule → Bool = λ o. elim o [ None ↦ false | Some z ↦ is_fixed z ] in
    let there : fixed_at (x ∷ made) k ≡ true = ap F (sym (place_rule (same x t) k)) ∙ ap (fixed_at (x ∷ all)) (place_first x t m k) ∙ f in
    ap (λ n. is_enabled (put_before n on) k) (none_unmade t m) ∙ h k there
put_fixed (more x own t) (inl m) on h zero f = refl
put_fixed (more x own t) (inr m) on h zero f = refl
put_fixed (more x own t) (inl m) on h (suc k) f = put_fixed t m.1 on h k f
put_fixed (more {made} {all} x own t) (inr m) on h (suc k) f = put_fixed t (plain_led all m) on h k f

-- no requirement is a rule that is left out
made_other : (left : List Bool) (x : HardRule) → is_other x ≡ true → is_made left x ≡ true
made_other left (req p d) h = absurd (false≢true h)
made_other left x h = refl

all_made : (left : List Bool) (xs : List HardRule) → list_all is_other xs ≡ true → list_all (is_made left) xs ≡ true
all_made left [] h = refl
all_made left (x ∷ xs) h = let both = and_parts (is_other x) (list_all is_other xs) h in and_from (is_made left x) (list_all (is_made left) xs) (made_other left x both.0) (all_made left xs both.1)

all_when : (p : HardRule → Bool) (b : Bool) (xs : List HardRule) → list_all p xs ≡ true → list_all p (when b xs) ≡ true
all_when p true xs h = h
all_when p false xs h = refl

-- what holds of the rules that packages ask for
pub record OfPackages (test : HardRule → Bool) : Type 0 where
  pub alone : (p : ℕ) → test (not_installable p) ≡ true
  pub con : (p d q : ℕ) → test (con p d q) ≡ true
  pub rich : (p d : ℕ) → test (rich_con p d) ≡ true
  pub obs : (p d q : ℕ) → test (obs p d q) ≡ true
  pub namesake : (p q : ℕ) → test (same p q) ≡ true

module _ (catalog : Catalog) (marks : Marks) (test : HardRule → Bool) (of : OfPackages test) (needs : (p : ℕ) (a : Package) → list_all test (map (λ need. req p need.dep) (counted_requirements catalog marks p a)) ≡ true) where
  all_asked : (p : ℕ) (a : Package) → list_all test (rules_asked_by catalog marks p a) ≡ true
  all_asked p a =
      all_append test _ (map (same p) (filter (is_later_namesake catalog marks p) (packages catalog)))
      (all_append test _ (flat_map (λ d. map (obs p d) (filter (is_obsoleted catalog marks p d) (packages catalog))) a.obsoletes)
      (all_append test _ (map (rich_con p) (counted_rich_conflicts catalog marks p a))
      (all_append test _ (conflict_rules catalog marks p a)
      (all_append test (when _ (not_installable p ∷ [])) (map (λ need. req p need.dep) (counted_requirements catalog marks p a))
      (all_when test _ (not_installable p ∷ []) (and_from (test (not_installable p)) true (of.alone p) refl))
      (needs p a))
      (list_all_flat test (λ d. map (con p d) (filter (is_conflicting catalog marks p d) (members catalog))) (λ d. list_all_map test (con p d) (of.con p d) (filter (is_conflicting catalog marks p d) (members catalog))) (filter (λ d. package_wise (dependency catalog d)) a.conflicts)))
      (list_all_map test (rich_con p) (of.rich p) (counted_rich_conflicts catalog marks p a)))
      (list_all_flat test (λ d. map (obs p d) (filter (is_obsoleted catalog marks p d) (packages catalog))) (λ d. list_all_map test (obs p d) (of.obs p d) (filter (is_obsoleted catalog marks p d) (packages catalog))) a.obsoletes))
      (list_all_map test (same p) (of.namesake p) (filter (is_later_namesake catalog marks p) (packages catalog)))

  of_package : (p : ℕ) (o : Option Package) → list_all test (option_map_or (rules_asked_by catalog marks p) o []) ≡ true
  of_package p None = refl
  of_package p (Some a) = all_asked p a

  all_of_packages : list_all test (package_rules catalog marks) ≡ true
  all_of_packages = list_all_flat test (λ p. option_map_or (rules_asked_by catalog marks p) (package_at catalog p) []) (λ p. of_package p (package_at catalog p)) (packages catalog)

-- behind these no rule is a requirement
module _ (catalog : Catalog) (flags : Flags) (jobs : List Job) (marks : Marks) where
  infarch_other : list_all is_other (infarch_rules catalog flags) ≡ true
  infarch_other =
      let ps : List ℕ = filter (λ p. not (is_installed catalog p) && is_inferior catalog flags p) (packages catalog) in
      all_when is_other (not flags.no_infarch_check) (map infarch ps) (list_all_map is_other infarch (λ p. refl) ps)

  successor_other : (p : ℕ) → is_other (successor_rule catalog flags marks p) ≡ true
  successor_other p = by (marked marks.dup p)
    where
      by : (b : Bool) → is_other (if b then dup p (successors catalog flags marks p) else update p (successors catalog flags marks p)) ≡ true
      by true = refl
      by false = refl

  update_other : list_all is_other (update_rules catalog flags marks jobs) ≡ true
  update_other = list_all_map is_other (successor_rule catalog flags marks) successor_other (filter (λ p. marked marks.multiversion p || not (is_asked_exactly catalog jobs marks p)) (kept_packages catalog flags marks))

  feature_other : list_all is_other (feature_rules catalog flags marks) ≡ true
  feature_other = list_all_map is_other (λ p. feature p (feature_candidates catalog flags marks p)) (λ p. refl) (kept_packages catalog flags marks)

  job_other : (j : ℕ) (action : Action) (xs : List ℕ) → list_all is_other (rule_of_job j action xs) ≡ true
  job_other j Install xs = refl
  job_other j Erase xs = refl
  job_other j Lock xs = refl
  job_other j action xs = refl

  jobs_other : list_all is_other (job_rules catalog jobs) ≡ true
  jobs_other = list_all_flat is_other (λ (job : ℕ × Job). rule_of_job job.0 job.1.action (selection catalog job.1.choice)) (λ job. job_other job.0 job.1.action (selection catalog job.1.choice)) (enumerate_from 0 jobs)

  best_job_other : (j : ℕ) (xs : List ℕ) → list_all is_other (best_job_rule j xs) ≡ true
  best_job_other j [] = refl
  best_job_other j (x ∷ xs) = refl

  best_jobs_other : list_all is_other (best_job_rules catalog jobs) ≡ true
  best_jobs_other =
      list_all_flat is_other (λ (job : ℕ × Job). when (acts Install job.1.action && job.1.forcebest) (best_job_rule job.0 (best catalog (selection catalog job.1.choice))))
      (λ job. all_when is_other (acts Install job.1.action && job.1.forcebest) (best_job_rule job.0 (best catalog (selection catalog job.1.choice))) (best_job_other job.0 (best catalog (selection catalog job.1.choice))))
      (enumerate_from 0 jobs)

  -- those of one job
  abbrev best_updates_of : ℕ × Job → List HardRule
  best_updates_of job = map (λ p. best_update job.0 p (best catalog (update_candidates catalog flags marks p))) (filter (λ p. is_installed catalog p && selects catalog job.1.choice p) (packages catalog))

  best_updates_other : list_all is_other (best_update_rules catalog flags marks jobs) ≡ true
  best_updates_other =
      list_all_flat is_other (λ (job : ℕ × Job). when (acts Update job.1.action && job.1.forcebest) (best_updates_of job))
      (λ job. all_when is_other (acts Update job.1.action && job.1.forcebest) (best_updates_of job)
      (list_all_map is_other (λ p. best_update job.0 p (best catalog (update_candidates catalog flags marks p))) (λ p. refl) (filter (λ p. is_installed catalog p && selects catalog job.1.choice p) (packages catalog))))
      (enumerate_from 0 jobs)

  pub all_led : IsLed (hard_rules_by catalog flags jobs marks)
  all_led =
      let fixed = all_of_packages catalog marks is_fixed (record { alone = λ p. refl; con = λ p d q. refl; rich = λ p d. refl; obs = λ p d q. refl; namesake = λ p q. refl })
      (λ p a. list_all_map is_fixed (λ (need : Need). req p need.dep) (λ need. refl) (counted_requirements catalog marks p a)) in
      led_behind _ (best_update_rules catalog flags marks jobs)
      (led_behind _ (best_job_rules catalog jobs)
      (led_behind _ (job_rules catalog jobs)
      (led_behind _ (feature_rules catalog flags marks)
      (led_behind _ (update_rules catalog flags marks jobs)
      (led_behind (package_rules catalog marks) (infarch_rules catalog flags) (fixed_led (package_rules catalog marks) fixed) infarch_other) update_other) feature_other) jobs_other) best_jobs_other) best_updates_other

-- each of the made rules is one
module _ (catalog : Catalog) (flags : Flags) (jobs : List Job) (marks : Marks) (left : List Bool) where
  needs_made : (p : ℕ) (counts : Need → Bool) (b : Bool) → marked left p ≡ b → (needs : List Need) → list_all (is_made left) (map (λ need. req p need.dep) (filter (λ need. not b && counts need) needs)) ≡ true
  needs_made p counts true e [] = refl
  needs_made p counts true e (need ∷ needs) = needs_made p counts true e needs
  needs_made p counts false e needs = list_all_map (is_made left) (λ (need : Need). req p need.dep) (λ need. ap not e) (filter (λ need. not false && counts need) needs)

  pub made_made : list_all (is_made left) (hard_rules_by catalog flags jobs (leaving marks left)) ≡ true
  made_made =
      let some : Marks = leaving marks left in
      let own = all_of_packages catalog some (is_made left) (record { alone = λ p. refl; con = λ p d q. refl; rich = λ p d. refl; obs = λ p d q. refl; namesake = λ p q. refl })
      (λ p a. needs_made p (λ need. requirement_counts catalog (leaving marks []) p need.dep) (marked left p) refl a.requires_) in
      let packed : List HardRule = package_rules catalog some in
      let far : List HardRule = infarch_rules catalog flags in
      let updates : List HardRule = update_rules catalog flags some jobs in
      let features : List HardRule = feature_rules catalog flags some in
      let asked : List HardRule = job_rules catalog jobs in
      let bests : List HardRule = best_job_rules catalog jobs in
      let last : List HardRule = best_update_rules catalog flags some jobs in
      let one = all_append (is_made left) packed far own (all_made left far (infarch_other catalog flags jobs some)) in
      let two = all_append (is_made left) (packed ++ far) updates one (all_made left updates (update_other catalog flags jobs some)) in
      let three = all_append (is_made left) (packed ++ far ++ updates) features two (all_made left features (feature_other catalog flags jobs some)) in
      let four = all_append (is_made left) (packed ++ far ++ updates ++ features) asked three (all_made left asked (jobs_other catalog flags jobs some)) in
      let five = all_append (is_made left) (packed ++ far ++ updates ++ features ++ asked) bests four (all_made left bests (best_jobs_other catalog flags jobs some)) in
      all_append (is_made left) (packed ++ far ++ updates ++ features ++ asked ++ bests) last five (all_made left last (best_updates_other catalog flags jobs some))

module _ (catalog : Catalog) (flags : Flags) (jobs : List Job) (marks : Marks) (left : List Bool) (out : LeavesOut catalog flags jobs marks left) where
  abbrev made_ : Request
  made_ = asked_with catalog flags jobs marks left out

  abbrev all_ : Request
  all_ = request_all catalog flags jobs marks left out

  abbrev thin : Thinned left (rules_of made_) (rules_of all_)
  thin = made_among catalog flags jobs marks left

  abbrev core_of : Request → CoreOf
  core_of r = record { clauses = flat_map (rule_clauses catalog) (rules_of r); owners = owners_from catalog 0 (rules_of r); packages = length catalog.universe.packages }

  -- each made rule is enabled that may not be dropped
  abbrev HasFixed : List HardRule → List Bool → Type 0
  HasFixed rules on = (k : ℕ) → fixed_at rules k ≡ true → is_enabled on k ≡ true

  abbrev HaveFixed : List HardRule → List Run → Type 0
  HaveFixed rules runs = (number : ℕ) (run : Run) → slice_get runs number ≡ Some run → HasFixed rules run.enabled

  -- the places among all rules are these
  pub rules_among : (k : ℕ) → rule_among left (rules_of all_) k ≡ place thin k
  rules_among = place_among thin (made_made catalog flags jobs marks left)

  pub clauses_among : (k : ℕ) → clause_among catalog left (rules_of all_) k ≡ clause_at catalog thin k
  clauses_among = clause_place_among catalog thin (made_made catalog flags jobs marks left)

  -- so many true flags stand before those of the made rules as there are rules that are not made
  module _ (many : ℕ) (are : many ≡ length (filter (λ x. not (is_made left x)) (rules_of all_))) where
    counted : many ≡ unmade thin
    counted = are ∙ unmade_many thin (made_made catalog flags jobs marks left)

    pub more_is : put_before many (replicate (length (rules_of made_)) true) ≡ replicate (length (rules_of all_)) true
    more_is = ap (λ n. put_before n (replicate (length (rules_of made_)) true)) counted ∙ put_all thin

    pub like_before : (on : List Bool) → HasFixed (rules_of made_) on → (k : ℕ) → is_enabled (put_before many on) (place thin k) ≡ is_enabled on k
    like_before on h k = ap (λ n. is_enabled (put_before n on) (place thin k)) counted ∙ put_like thin (all_led catalog flags jobs (leaving marks [])) on h k

    pub fixed_before : (on : List Bool) → HasFixed (rules_of made_) on → HasFixed (rules_of all_) (put_before many on)
    fixed_before on h k f = ap (λ n. is_enabled (put_before n on) k) counted ∙ put_fixed thin (all_led catalog flags jobs (leaving marks [])) on h k f

    -- so it is with the runs of a ledger
    pub first_before : (runs : List Run) → slice_get runs 0 ≡ Some (record { enabled = replicate (length (rules_of made_)) true; kept = [] })
        → slice_get (map (run_at (put_before many)) runs) 0 ≡ Some (record { enabled = replicate (length (rules_of all_)) true; kept = [] })
    first_before [] e = absurd (cc)
    first_before (r ∷ runs) e = ap (λ o. Some (run_at (put_before many) (unwrap_or o r))) e ∙ ap (λ l. Some (record { enabled = l; kept = [] })) more_is

    pub runs_before : (runs : List Run) → HaveFixed (rules_of made_) runs → HaveFixed (rules_of all_) (map (run_at (put_before many)) runs)
    runs_before runs each number run there k f =
        let m = map_back (run_at (put_before many)) runs number run there in
        let R : Run → Type 0 = λ r. is_enabled r.enabled k ≡ true in
        subst R m.1.1 (fixed_before (m.0).enabled (each number m.0 m.1.0) k f)

    module _ (at : ℕ → ℕ) (ats : (k : ℕ) → at k ≡ clause_at catalog thin k) (names : ClausesNamePackages) (bookable : list_all (is_bookable catalog) (rules_of all_) ≡ true) where
      -- a ledger
      pub ledger_moved : (ledger : Ledger) → list_all (is_of_inside (length catalog.universe.packages) (marked left)) ledger.entries ≡ true → HaveFixed (rules_of made_) ledger.runs
          → IsGoodLedger (flat_map (rule_clauses catalog) (rules_of made_)) (owners_from catalog 0 (rules_of made_)) (length catalog.universe.packages) (asks made_) ledger
          → IsGoodLedger (flat_map (rule_clauses catalog) (rules_of all_)) (owners_from catalog 0 (rules_of all_)) (length catalog.universe.packages) (asks all_) (ledger_at at (put_before many) ledger)
      ledger_moved ledger inside fixed good =
          let G : (ℕ → ℕ) → Type 0 = λ f. IsGoodLedger (flat_map (rule_clauses catalog) (rules_of all_)) (owners_from catalog 0 (rules_of all_)) (length catalog.universe.packages) (asks all_) (ledger_at f (put_before many) ledger) in
          subst G (sym (fun_ext ats)) (ledger_of_all catalog flags jobs marks left out names bookable (put_before many) ledger (λ number run there. like_before run.enabled (fixed number run there)) inside good)

  -- as many runs and entries, and the same budget
  pub runs_many : (at : ℕ → ℕ) (many : ℕ) (ledger : Ledger) → length (ledger_at at (put_before many) ledger).runs ≡ length ledger.runs
  runs_many at many ledger = length-map ledger.runs (run_at (put_before many))

  pub entries_many : (at : ℕ → ℕ) (many : ℕ) (ledger : Ledger) → length (ledger_at at (put_before many) ledger).entries ≡ length ledger.entries
  entries_many at many ledger = length-map ledger.entries (entry_at at)

  pub budget_same : (at : ℕ → ℕ) (many : ℕ) (ledger : Ledger) → (ledger_at at (put_before many) ledger).budget ≡ ledger.budget
  budget_same at many ledger = refl

  -- problems
  pub problems_moved : (at rule : ℕ → ℕ) → ((k : ℕ) → at k ≡ clause_at catalog thin k) → ((k : ℕ) → rule k ≡ place thin k)
      → ClausesNamePackages → list_all (is_bookable catalog) (rules_of all_) ≡ true → ClausesSayTheRule
      → (problems : List Problem) → IsGoodList made_ (core_of made_) problems → IsGoodList all_ (core_of all_) (map (problem_at at rule) problems)
  problems_moved at rule ats rules names bookable say problems good =
      let G : (ℕ → ℕ) → Type 0 = λ f. IsGoodList all_ (core_of all_) (map (problem_at f rule) problems) in
      let R : (ℕ → ℕ) → Type 0 = λ f. IsGoodList all_ (core_of all_) (map (problem_at (clause_at catalog thin) f) problems) in
      subst G (sym (fun_ext ats)) (subst R (sym (fun_ext rules)) (list_of_all catalog flags jobs marks left out names bookable say problems good))
