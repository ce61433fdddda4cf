-- Tables of packages after jobs were written into them.
use Rattle.std.proofs.Common.{◌≡◌, ◌<◌, ◌≤◌, ◌+◌, ℕ, zero, suc, ℤ, pos, Bool, true, false, ◌&&◌, ◌||◌, List, [], ◌∷◌, map, length, refl, sym, ap, ◌∙◌, arith, add-one}
use Rattle.std.specs.Prelude.{filter, fold, replicate, slice_set, ◌==◌, nat_lt, if◌then◌else◌}
use Rattle.std.specs.List.{list_any, list_all, range_with_len}
use Rattle.std.specs.Option.{option_map_or}
use Rattle.std.proofs.lemmas.Bool.Decides.{nat_tests}
use Rattle.solv_pool.specs.Prelude.{is_among, Catalog, catalog_of, packages, is_pack, mark_each, favour_of, favour_after}
use Rattle.std.proofs.lemmas.List.{length-map}
use Rattle.solv_pool.specs.declared.tasks.Task.{Task}
use Rattle.solv_pool.specs.Selections.{selects, selection}
use Rattle.solv_pool.specs.JobKinds.{job_selects, job_selects_installed}
use Rattle.solv_pool.specs.JobKinds.{acts}
use Rattle.solv_pool.specs.Inner.JobMarks.{marks_by}
use Rattle.solv_pool.specs.declared.jobs.Job.{Job}
use Rattle.solv_pool.specs.declared.jobs.Action.{Action}
use Rattle.solv_pool.specs.declared.jobs.Action.TheVariants.{Install, Erase, Update, Distupgrade, Lock, Verify, Multiversion, AllowUninstall, Favor, Disfavor, UserInstalled, Noop}
use Rattle.solv_jobs.specs.declared.marking.Mark.{Mark}
use Rattle.solv_jobs.specs.declared.marking.Mark.TheVariants as mark
use Rattle.solv_jobs.specs.Inner.Marking.{with_values, with_jobs, with_favours, favour_given, makes, may_bear, bears}
use Rattle.solv_jobs.specs.Marking.{HasMarks}
use Rattle.solv_jobs.proofs.Choices.{selection_within}
use Rattle.solv_list.proofs.Booleans.{first_of_both, second_of_both}
use Rattle.solv_list.proofs.Lists.{all_filter}
use Rattle.solv_pool.proofs.Among.{among_filter}
use Rattle.solv_prov.proofs.Obsoleting.{among_range}

-- the same value for each number of a range
map_within : {T : Type 0} (f g : ℕ → T) (start count : ℕ) → ((q : ℕ) → start ≤ q → q < start + count → f q ≡ g q) → map f (range_with_len start count) ≡ map g (range_with_len start count)
map_within f g start zero h = refl
map_within f g start (suc count) h =
    rw (add-one, h start (omega arith) (omega arith), map_within f g (suc start) count (λ q from upto. h q (omega (arith, from)) (omega (arith, upto)))) refl

-- the list with another value at one place
set_in_range : {T : Type 0} (x : T) (f : ℕ → T) (start count k : ℕ)
    → slice_set (map f (range_with_len start count)) k x ≡ map (λ q. if start + k == q then x else f q) (range_with_len start count)
set_in_range x f start zero k = refl
set_in_range x f start (suc count) zero =
    let here : (start + zero == start) ≡ true = grind (arith, nat_tests) in
    rw (add-one, here) (ap (λ t. x ∷ t) (map_within f (λ q. if start + zero == q then x else f q) (suc start) count (λ q from upto. let other : (start + zero == q) ≡ false = grind (arith, nat_tests, from) in rw other refl)))
set_in_range x f start (suc count) (suc k) =
    let other : (start + suc k == start) ≡ false = grind (arith, nat_tests) in
    let place : suc start + k ≡ start + suc k = omega arith in
    rw (add-one, other) (ap (λ t. f start ∷ t) (set_in_range x f (suc start) count k ∙ ap (λ m. map (λ q. if m == q then x else f q) (range_with_len (suc start) count)) place))

module _ {T : Type 0} (x : T) where
  -- a table whose first entry is the system's
  set_package : (a : T) (f : ℕ → T) (count p : ℕ) → 0 < p → slice_set (a ∷ map f (range_with_len 1 count)) p x ≡ a ∷ map (λ q. if p == q then x else f q) (range_with_len 1 count)
  set_package a f count zero some = absurd (omega (arith, some))
  set_package a f count (suc k) some =
      ap (λ t. a ∷ t) (set_in_range x f 1 count k ∙ ap (λ m. map (λ q. if m == q then x else f q) (range_with_len 1 count)) (omega arith))

  choose : (p q : ℕ) (ps : List ℕ) (y : T) → (if is_among ps q then x else (if p == q then x else y)) ≡ (if is_among (p ∷ ps) q then x else y)
  choose p q ps y = cases (p == q) (is_among ps q)
    where
      cases : (a b : Bool) → (if b then x else (if a then x else y)) ≡ (if a || b then x else y)
      cases true true = refl
      cases true false = refl
      cases false b = refl

  pub values_in_table : (a : T) (f : ℕ → T) (count : ℕ) (ps : List ℕ) → list_all (is_pack count) ps ≡ true
      → with_values x ps (a ∷ map f (range_with_len 1 count)) ≡ a ∷ map (λ q. if is_among ps q then x else f q) (range_with_len 1 count)
  values_in_table a f count [] h = refl
  values_in_table a f count (p ∷ ps) h =
      let some : nat_lt 0 p ≡ true = first_of_both (nat_lt 0 p) _ (first_of_both (is_pack count p) _ h) in
      let above : 0 < p = grind (arith, nat_tests, some) in
      ap (λ t. with_values x ps t) (set_package a f count p above)
      ∙ values_in_table a (λ q. if p == q then x else f q) count ps (second_of_both (is_pack count p) _ h)
      ∙ ap (λ t. a ∷ t) (map_within (λ q. if is_among ps q then x else (if p == q then x else f q)) (λ q. if is_among (p ∷ ps) q then x else f q) 1 count (λ q from upto. choose p q ps (f q)))

-- in the range of packages, what is among a selection is what is selected
among_selection : (catalog : Catalog) (j : Job) (q : ℕ) → 1 ≤ q → q < 1 + length catalog.universe.packages → is_among (selection catalog j.choice) q ≡ selects catalog j.choice q
among_selection catalog j q from upto =
    among_filter (selects catalog j.choice) (packages catalog) q ∙ rw (among_range 1 (length catalog.universe.packages) q from upto) refl

among_bearers : (catalog : Catalog) (m : Mark) (j : Job) (q : ℕ) → 1 ≤ q → q < 1 + length catalog.universe.packages
    → is_among (filter (may_bear catalog m) (selection catalog j.choice)) q ≡ (selects catalog j.choice q && may_bear catalog m q)
among_bearers catalog m j q from upto = among_filter (may_bear catalog m) (selection catalog j.choice) q ∙ rw (among_selection catalog j q from upto) refl

module _ (catalog : Catalog) (m : Mark) where
  -- p was marked, or may be and is by one of these jobs
  abbrev marked_then : (ℕ → Bool) → List Job → ℕ → Bool
  marked_then f jobs q = f q || (may_bear catalog m q && list_any (λ job. makes m job && selects catalog job.choice q) jobs)

  jobs_in_table : (f : ℕ → Bool) (jobs : List Job)
      → with_jobs catalog m jobs (false ∷ map f (packages catalog)) ≡ false ∷ map (marked_then f jobs) (packages catalog)
  jobs_in_table f [] = ap (λ t. false ∷ t) (map_within f (marked_then f []) 1 (length catalog.universe.packages) (λ q from upto. nothing (f q) (may_bear catalog m q)))
    where
      nothing : (a b : Bool) → a ≡ (a || (b && false))
      nothing true b = refl
      nothing false true = refl
      nothing false false = refl
  jobs_in_table f (job ∷ jobs) = step (makes m job) (jobs_in_table f jobs) (jobs_in_table g jobs)
    where
      n : ℕ
      n = length catalog.universe.packages

      g : ℕ → Bool
      g q = if selects catalog job.choice q && may_bear catalog m q then true else f q

      one : with_values true (filter (may_bear catalog m) (selection catalog job.choice)) (false ∷ map f (packages catalog)) ≡ false ∷ map g (packages catalog)
      one =
          values_in_table true false f n (filter (may_bear catalog m) (selection catalog job.choice)) (all_filter (is_pack n) (may_bear catalog m) (selection catalog job.choice) (selection_within catalog job.choice))
          ∙ ap (λ t. false ∷ t) (map_within (λ q. if is_among (filter (may_bear catalog m) (selection catalog job.choice)) q then true else f q) g 1 n (λ q from upto. ap (λ b. if b then true else f q) (among_bearers catalog m job q from upto)))

      join : (s b a y : Bool) → ((if s && b then true else y) || (b && a)) ≡ (y || (b && (s || a)))
      join true true a true = refl
      join true true a false = refl
      join true false a true = refl
      join true false a false = refl
      join false true a true = refl
      join false true a false = refl
      join false false a true = refl
      join false false a false = refl

      step : (b : Bool) → with_jobs catalog m jobs (false ∷ map f (packages catalog)) ≡ false ∷ map (marked_then f jobs) (packages catalog)
          → with_jobs catalog m jobs (false ∷ map g (packages catalog)) ≡ false ∷ map (marked_then g jobs) (packages catalog)
          → with_jobs catalog m jobs (if b then with_values true (filter (may_bear catalog m) (selection catalog job.choice)) (false ∷ map f (packages catalog)) else (false ∷ map f (packages catalog)))
          ≡ false ∷ map (λ q. f q || (may_bear catalog m q && ((b && selects catalog job.choice q) || list_any (λ job. makes m job && selects catalog job.choice q) jobs))) (packages catalog)
      step true as_before as_marked =
          ap (λ t. with_jobs catalog m jobs t) one ∙ as_marked
          ∙ ap (λ t. false ∷ t) (map_within (marked_then g jobs) (λ q. f q || (may_bear catalog m q && (selects catalog job.choice q || list_any (λ job. makes m job && selects catalog job.choice q) jobs))) 1 n
          (λ q from upto. join (selects catalog job.choice q) (may_bear catalog m q) (list_any (λ job. makes m job && selects catalog job.choice q) jobs) (f q)))
      step false as_before as_marked = as_before

replicated : {T : Type 0} (x : T) (start count : ℕ) → replicate count x ≡ map (λ q. x) (range_with_len start count)
replicated x start zero = refl
replicated x start (suc count) = rw add-one (ap (λ t. x ∷ t) (replicated x (suc start) count))

fresh : {T : Type 0} (x : T) (count : ℕ) → replicate (count + 1) x ≡ x ∷ map (λ q. x) (range_with_len 1 count)
fresh x count = rw add-one (ap (λ t. x ∷ t) (replicated x 1 count))

-- the table of a mark after all jobs
pub marks_in_table : (catalog : Catalog) (jobs : List Job) (m : Mark)
    → with_jobs catalog m jobs (replicate (length catalog.universe.packages + 1) false) ≡ mark_each catalog jobs (bears catalog jobs m)
marks_in_table catalog jobs m = ap (λ t. with_jobs catalog m jobs t) (fresh false (length catalog.universe.packages)) ∙ jobs_in_table catalog m (λ q. false) jobs ∙ named m
  where
    named : (m : Mark) → (false ∷ map (marked_then catalog m (λ q. false) jobs) (packages catalog)) ≡ mark_each catalog jobs (bears catalog jobs m)
    named mark.Update = refl
    named mark.Dup = refl
    named mark.Verify = refl
    named mark.Multiversion = refl
    named mark.AllowUninstall = refl
    named mark.Erased = refl
    named mark.Asked = refl
    named mark.UserInstalled = refl
    named mark.GivenUp = refl

module _ (catalog : Catalog) where
  -- the favour of q after these jobs
  abbrev favour_then : ℕ → ℤ → List Job → ℤ
  favour_then q before jobs = fold (λ before job. if selects catalog job.choice q then favour_after job.action before else before) before jobs

  favours_in_table : (f : ℕ → ℤ) (jobs : List Job) → with_favours catalog jobs (pos 0 ∷ map f (packages catalog)) ≡ pos 0 ∷ map (λ q. favour_then q (f q) jobs) (packages catalog)
  favours_in_table f [] = refl
  favours_in_table f (job ∷ jobs) = ap (λ t. with_favours catalog jobs t) (step job.action) ∙ favours_in_table (λ q. if selects catalog job.choice q then favour_after job.action (f q) else f q) jobs
    where
      n : ℕ
      n = length catalog.universe.packages

      given : (x : ℤ) → with_values x (selection catalog job.choice) (pos 0 ∷ map f (packages catalog)) ≡ pos 0 ∷ map (λ q. if selects catalog job.choice q then x else f q) (packages catalog)
      given x =
          values_in_table x (pos 0) f n (selection catalog job.choice) (selection_within catalog job.choice)
          ∙ ap (λ t. pos 0 ∷ t) (map_within (λ q. if is_among (selection catalog job.choice) q then x else f q) (λ q. if selects catalog job.choice q then x else f q) 1 n (λ q from upto. ap (λ b. if b then x else f q) (among_selection catalog job q from upto)))

      either : (b : Bool) (x : ℤ) → x ≡ (if b then x else x)
      either true x = refl
      either false x = refl

      kept : (pos 0 ∷ map f (packages catalog)) ≡ pos 0 ∷ map (λ q. if selects catalog job.choice q then f q else f q) (packages catalog)
      kept = ap (λ t. pos 0 ∷ t) (map_within f (λ q. if selects catalog job.choice q then f q else f q) 1 n (λ q from upto. either (selects catalog job.choice q) (f q)))

      step : (a : Action) → option_map_or (λ favour. with_values favour (selection catalog job.choice) (pos 0 ∷ map f (packages catalog))) (favour_given a) (pos 0 ∷ map f (packages catalog))
          ≡ pos 0 ∷ map (λ q. if selects catalog job.choice q then favour_after a (f q) else f q) (packages catalog)
      step Favor = given (favour_after Favor (pos 0))
      step Disfavor = given (favour_after Disfavor (pos 0))
      step Install = kept
      step Erase = kept
      step Update = kept
      step Distupgrade = kept
      step Lock = kept
      step Verify = kept
      step Multiversion = kept
      step AllowUninstall = kept
      step UserInstalled = kept
      step Noop = kept

-- the table of favour after all jobs
pub favours_are : (catalog : Catalog) (jobs : List Job) → with_favours catalog jobs (replicate (length catalog.universe.packages + 1) (pos 0)) ≡ pos 0 ∷ map (favour_of catalog jobs) (packages catalog)
favours_are catalog jobs = ap (λ t. with_favours catalog jobs t) (fresh (pos 0) (length catalog.universe.packages)) ∙ favours_in_table catalog (λ q. pos 0) jobs

-- the marks of all jobs have an entry for each package and for the system
pub marks_each : (task : Task) → HasMarks (length task.universe.packages) (marks_by (catalog_of task) task.jobs)
marks_each task = record {
  update = each false (job_selects_installed (catalog_of task) task.jobs (acts Update));
  dup = each false (job_selects_installed (catalog_of task) task.jobs (acts Distupgrade));
  verify = each false (job_selects_installed (catalog_of task) task.jobs (acts Verify));
  multiversion = each false (job_selects (catalog_of task) task.jobs (acts Multiversion));
  allow_uninstall = each false (job_selects_installed (catalog_of task) task.jobs (acts AllowUninstall));
  erased = each false (job_selects (catalog_of task) task.jobs (acts Erase));
  favour = each (pos 0) (favour_of (catalog_of task) task.jobs);
}
  where
    range_length : (start count : ℕ) → length (range_with_len start count) ≡ count
    range_length start zero = refl
    range_length start (suc count) = rw add-one (ap (λ n. suc n) (range_length (suc start) count))

    each : {T : Type 0} (x : T) (f : ℕ → T) → length (x ∷ map f (packages (catalog_of task))) ≡ length task.universe.packages + 1
    each x f = ap (λ n. suc n) (length-map (packages (catalog_of task)) f ∙ range_length 1 (length task.universe.packages)) ∙ sym (add-one (length task.universe.packages))
