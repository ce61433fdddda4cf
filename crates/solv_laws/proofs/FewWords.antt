-- The rules of such a task have few words, and none of them is too rich.
use Rattle.std.proofs.Common.{◌≡◌, ◌≤◌, ◌+◌, ◌*◌, ℕ, suc, Bool, true, false, not, cond, ◌&&◌, ◌||◌, List, [], ◌∷◌, ◌++◌, map, length, Option, Some, None, inl, inr, refl, sym, ap, subst, ◌∙◌, arith}
use Rattle.std.specs.Prelude.{filter, flat_map, slice_get, ◌==◌, nat_lt, if◌then◌else◌}
use Rattle.std.specs.List.{range_with_len, enumerate_from}
use Rattle.std.specs.Option.{option_map_or}
use Rattle.std.proofs.lemmas.List.{length-map}
use Rattle.std.proofs.lemmas.List.FromFn.{length-range_with_len}
use Rattle.solv_list.proofs.Booleans.{first_of_both, second_of_both}
use Rattle.solv_base.specs.Dependency.{Dep, one, versioned, package_wise}
use Rattle.solv_base.specs.Pool.{text_tree}
use Rattle.solv_pool.specs.Prelude.{is_among, when, Catalog, catalog_of, packages, members, package_at, dependency, is_installed, same_name, is_in, is_out, with_package, clauses_of, clause_count, all_meeting, shape_clauses, package_meets, leaving_out, marked, marks_of, HardRule, not_installable, req, con, rich_con, obs, same, infarch, update, dup, feature, install, erase, lock, best_job, shape_of, counted_requirements, is_conflicting, conflict_rules, counted_rich_conflicts, obsoletion_rules, is_later_namesake, rules_asked_by, package_rules, is_inferior, infarch_rules, update_candidates, feature_candidates, successors, successor_rule, is_kept, kept_packages, update_rules, feature_rules, rule_of_job, best_job_rule, job_rules, best_job_rules, best_update_rules, hard_rules}
use Rattle.solv_pool.specs.Best.{best}
use Rattle.solv_pool.specs.Counting.{requirement_counts, rich_conflict_counts}
use Rattle.solv_pool.specs.Installable.{is_installable}
use Rattle.solv_pool.specs.JobKinds.{acts}
use Rattle.solv_pool.specs.declared.jobs.Action.TheVariants.{Update}
use Rattle.solv_pool.specs.Selections.{selects, selection}
use Rattle.solv_pool.specs.Updates.{is_feature, is_legal, flags_allow, may_stay, feature_set, itself_and, dup_set}
use Rattle.solv_pool.specs.Inner.HardRules.{not_installable_rules, requirement_rules, package_wise_conflicts, conflicting, rich_conflict_rules, obsoleted, later_namesakes, same_name_rules, rules_of_package, inferior_packages, has_update_rule, numbered_jobs, selected_installed, best_update_rule}
use Rattle.solv_pool.specs.declared.job_marks.Marks.{Marks}
use Rattle.solv_pool.specs.declared.jobs.Action.{Action}
use Rattle.solv_pool.specs.declared.jobs.Action.TheVariants.{Install, Erase, Lock}
use Rattle.solv_pool.specs.declared.jobs.Job.{Job}
use Rattle.solv_pool.specs.declared.packages.Package.{Package}
use Rattle.solv_pool.specs.declared.tasks.Task.{Task}
use Rattle.solv_pool.proofs.Among.{among_filter}
use Rattle.solv_pool.proofs.Members.{Has, of_filtered, all_at}
use Rattle.solv_pool.proofs.Origins.{IsFrom, is_from}
use Rattle.solv_rules.specs.Books.{rich_by, rich_fault, first_fault}
use Rattle.solv_script.specs.GrownTasks.{is_compared}
use Rattle.solv_leaving.proofs.ClauseWords.{size, size_made, raw_words, passes_no_limit}
use Rattle.solv_laws.proofs.FewOfOneName.{IsModest, asked, compared, plain_at, few_named, few_members, meeting_named, namesake_named, near_named}
use Rattle.solv_laws.proofs.Packs.{some_passes}
use Rattle.solv_leaving.proofs.Totals.{total, total_join, total_made, total_flat, total_when, fewer_pass}
use Rattle.std.proofs.lemmas.Bool.{or_right}

-- rules of all numbers, by the records
total_by_records : (w : HardRule → ℕ) (make : ℕ → List HardRule) (ps : List Package) (a : ℕ) → ((k : ℕ) (b : Package) → slice_get ps k ≡ Some b → total w (make (a + k)) ≤ 23 + 24 * asked b)
    → total w (flat_map make (range_with_len a (length ps))) ≤ 23 * length ps + 24 * total asked ps
total_by_records w make [] a h = omega arith
total_by_records w make (b ∷ ps) a h =
    let same : a + 0 ≡ a = omega arith in
    let here : total w (make a) ≤ 23 + 24 * asked b = subst (λ n. total w (make n) ≤ 23 + 24 * asked b) same (h 0 b refl) in
    let rest = total_by_records w make ps (a + 1) (λ k c is. let next : a + suc k ≡ a + 1 + k = omega arith in subst (λ n. total w (make n) ≤ 23 + 24 * asked c) next (h (suc k) c is)) in
    let both = total_join w (make a) (flat_map make (range_with_len (a + 1) (length ps))) in
    omega (arith, here, rest, both)

pub none_pass : (f : ℕ → Bool) (xs : List ℕ) → ((x : ℕ) → Has xs x → f x ≡ false) → filter f xs ≡ []
none_pass f [] h = refl
none_pass f (x ∷ xs) h = rw (h x (inl refl)) (none_pass f xs (λ y there. h y (inr there)))

few_either : (b : Bool) (xs ys : List ℕ) (most : ℕ) → length xs ≤ most → length ys ≤ most → length (cond b xs ys) ≤ most
few_either true xs ys most h k = h
few_either false xs ys most h k = k

numbered_count : (k : ℕ) (jobs : List Job) → length (enumerate_from k jobs) ≡ length jobs
numbered_count k [] = refl
numbered_count k (job ∷ jobs) = ap suc (numbered_count (k + 1) jobs)

narrower : (a b c : Bool) → (a || (b && c)) ≡ true → (a || b) ≡ true
narrower true b c h = refl
narrower false b c h = first_of_both b c h

module _ (task : Task) (modest : IsModest task) where
  abbrev catalog : Catalog
  catalog = catalog_of task

  abbrev marks : Marks
  marks = marks_of task

  -- sizes by shape
  size_of_some : (r : HardRule) (xs : List ℕ) → total raw_words (shape_clauses catalog (shape_of r)) ≡ length (map is_in xs) + 4 + 0 → size catalog r ≤ length xs + 4
  size_of_some r xs is = let made = size_made catalog r in let same_length = length-map xs is_in in omega (arith, made, is, same_length)

  package_count : length (packages catalog) ≡ 6300
  package_count = length-range_with_len 1 (length task.universe.packages) ∙ modest.count

  fewer_packages : (f : ℕ → Bool) → length (filter f (packages catalog)) ≤ 6300
  fewer_packages f = let fewer = fewer_pass f (packages catalog) in let all = package_count in omega (arith, fewer, all)

  -- what a package asks for
  module _ (p : ℕ) (a : Package) (is : package_at catalog p ≡ Some a) where
    few_meet : (d : ℕ) (f : ℕ → Bool) → is_compared (text_tree task.pool d) ≡ true → ((q : ℕ) → f q ≡ true → package_meets catalog (dependency catalog d) q ≡ true) → length (filter f (members catalog)) ≤ 4
    few_meet d f simple h =
        let c = compared task.pool d simple in
        few_members task modest c.0 f (λ q b at t. meeting_named task modest c.0 c.1 c.2 q b at (subst (λ (t : Dep ℕ). package_meets catalog t q ≡ true) c.3 (h q t)))

    requirement_size : (d : ℕ) → is_compared (text_tree task.pool d) ≡ true → size catalog (req p d) ≤ 9
    requirement_size d simple =
        let c = compared task.pool d simple in
        let made = size_made catalog (req p d) in
        let raw : total raw_words (with_package p (clauses_of catalog None true (dependency catalog d))) ≡ suc (length (map is_in (all_meeting catalog None (one (versioned c.0 c.1 c.2))))) + 4 + 0
        = ap (λ (t : Dep ℕ). total raw_words (with_package p (clauses_of catalog None true t))) c.3 in
        let same_length = length-map (all_meeting catalog None (one (versioned c.0 c.1 c.2))) is_in in
        let few = few_meet d (leaving_out None (package_meets catalog (one (versioned c.0 c.1 c.2)))) simple (λ q t. subst (λ (t : Dep ℕ). package_meets catalog t q ≡ true) (sym c.3) t) in
        omega (arith, made, raw, same_length, few)

    requirements_size : total (size catalog) (requirement_rules catalog marks p a) ≤ length a.requires_ * 9
    requirements_size =
        let each = total_made (size catalog) (λ need. req p need.dep) 9 (counted_requirements catalog marks p a)
        (λ need there. requirement_size need.dep (all_at (λ need. is_compared (text_tree task.pool need.dep)) a.requires_ need (plain_at task modest p a is).requires_ (of_filtered (λ need. requirement_counts catalog marks p need.dep) a.requires_ need there).0)) in
        let fewer = fewer_pass (λ need. requirement_counts catalog marks p need.dep) a.requires_ in
        omega (arith, each, fewer)

    conflict_compared : (d : ℕ) → Has a.conflicts d → is_compared (text_tree task.pool d) ≡ true
    conflict_compared d there = all_at (λ d. is_compared (text_tree task.pool d)) a.conflicts d (plain_at task modest p a is).conflicts_ there

    conflict_size : (d : ℕ) → is_compared (text_tree task.pool d) ≡ true → total (size catalog) (map (con p d) (conflicting catalog marks p d)) ≤ 24
    conflict_size d simple =
        let each = total_made (size catalog) (con p d) 6 (conflicting catalog marks p d) (λ q there. size_made catalog (con p d q)) in
        let few = few_meet d (is_conflicting catalog marks p d) simple (λ q t. first_of_both (package_meets catalog (dependency catalog d) q) _ (second_of_both (not (q == p)) _ t)) in
        omega (arith, each, few)

    conflicts_size : total (size catalog) (conflict_rules catalog marks p a) ≤ length a.conflicts * 24
    conflicts_size =
        let each = total_flat (size catalog) (λ d. map (con p d) (conflicting catalog marks p d)) 24 (package_wise_conflicts catalog a)
        (λ d there. conflict_size d (conflict_compared d (of_filtered (λ d. package_wise (dependency catalog d)) a.conflicts d there).0)) in
        let fewer = fewer_pass (λ d. package_wise (dependency catalog d)) a.conflicts in
        omega (arith, each, fewer)

    compared_wise : (d : ℕ) → is_compared (text_tree task.pool d) ≡ true → package_wise (dependency catalog d) ≡ true
    compared_wise d simple = let c = compared task.pool d simple in ap (λ (t : Dep ℕ). package_wise t) c.3

    no_rich_conflicts : counted_rich_conflicts catalog marks p a ≡ []
    no_rich_conflicts = none_pass (λ d. not (package_wise (dependency catalog d)) && rich_conflict_counts catalog marks p d) a.conflicts (λ d there. ap (λ b. not b && rich_conflict_counts catalog marks p d) (compared_wise d (conflict_compared d there)))

    namesakes_size : total (size catalog) (same_name_rules catalog marks p) ≤ 18
    namesakes_size =
        let each = total_made (size catalog) (same p) 6 (later_namesakes catalog marks p) (λ q there. size_made catalog (same p q)) in
        let few = few_named task modest a.name (is_later_namesake catalog marks p) (λ q b at t. namesake_named task modest p a is q b at (first_of_both (same_name catalog p q) _ (second_of_both (nat_lt p q) _ t))) in
        omega (arith, each, few)

    asked_size : total (size catalog) (rules_asked_by catalog marks p a) ≤ 23 + 24 * asked a
    asked_size =
        let one_ = not_installable_rules catalog p in
        let two = requirement_rules catalog marks p a in
        let three = conflict_rules catalog marks p a in
        let four = rich_conflict_rules catalog marks p a in
        let five = obsoletion_rules catalog marks p a in
        let six = same_name_rules catalog marks p in
        let j2 = total_join (size catalog) one_ two in
        let j3 = total_join (size catalog) (one_ ++ two) three in
        let j4 = total_join (size catalog) (one_ ++ two ++ three) four in
        let j5 = total_join (size catalog) (one_ ++ two ++ three ++ four) five in
        let j6 = total_join (size catalog) (one_ ++ two ++ three ++ four ++ five) six in
        let s1 = total_when (size catalog) (not (is_installable catalog p)) (not_installable p ∷ []) in
        let out_size = size_made catalog (not_installable p) in
        let s2 = requirements_size in
        let s3 = conflicts_size in
        let s4 : total (size catalog) four ≡ 0 = ap (λ (ds : List ℕ). total (size catalog) (map (rich_con p) ds)) no_rich_conflicts in
        let s5 : total (size catalog) five ≡ 0 = ap (λ (ds : List ℕ). total (size catalog) (flat_map (λ d. map (obs p d) (obsoleted catalog marks p d)) ds)) (plain_at task modest p a is).obsoletes_ in
        let s6 = namesakes_size in
        omega (arith, j2, j3, j4, j5, j6, s1, out_size, s2, s3, s4, s5, s6)

    -- what may take the place of a package is little
    few_near : (f : ℕ → Bool) → ((q : ℕ) → f q ≡ true → ((q == p) || is_feature catalog marks p q) ≡ true) → length (filter f (packages catalog)) ≤ 3
    few_near f h = few_named task modest a.name f (λ q b at t. near_named task modest marks p a is q b at (h q t))

    few_candidates : length (update_candidates catalog task.flags marks p) ≤ 3
    few_candidates = few_near (λ q. (q == p) || is_legal catalog task.flags marks p q) (λ q t. narrower (q == p) (is_feature catalog marks p q) (flags_allow catalog task.flags p q) t)

    few_features : length (feature_candidates catalog task.flags marks p) ≤ 3
    few_features = few_near (λ q. (q == p) || is_feature catalog marks p q) (λ q t. t)

    few_successors : length (successors catalog task.flags marks p) ≤ 3
    few_successors =
        few_either (marked marks.dup p) (dup_set catalog marks p) (update_candidates catalog task.flags marks p) 3
        (few_either (may_stay catalog marks p) (itself_and catalog (is_feature catalog marks p) p) (feature_set catalog marks p) 3 few_features (few_near (is_feature catalog marks p) (λ q t. or_right (q == p) (is_feature catalog marks p q) t)))
        few_candidates

    few_best : length (best catalog (update_candidates catalog task.flags marks p)) ≤ 3
    few_best = few_near _ (λ q t. narrower (q == p) (is_feature catalog marks p q) (flags_allow catalog task.flags p q) (second_of_both (is_among (packages catalog) q) _ (sym (among_filter (λ q. (q == p) || is_legal catalog task.flags marks p q) (packages catalog) q) ∙ first_of_both (is_among (update_candidates catalog task.flags marks p) q) _ t)))

  record_of : (p : ℕ) → is_installed catalog p ≡ true → (a : Package) × (package_at catalog p ≡ Some a)
  record_of p there = let a = some_passes (package_at catalog p) _ there in (a.0, a.1.0)

  packages_size : total (size catalog) (package_rules catalog marks) ≤ 23 * 6300 + 24 * 40000
  packages_size =
      let each = total_by_records (size catalog) (rules_of_package catalog marks) task.universe.packages 1 (λ k b is.
      let next : 1 + k ≡ suc k = omega arith in
      let at : package_at catalog (1 + k) ≡ Some b = ap (package_at catalog) next ∙ is in
      let same_rules = ap (λ (o : Option Package). total (size catalog) (option_map_or (rules_asked_by catalog marks (1 + k)) o [])) at in
      let own = asked_size (1 + k) b at in
      omega (arith, same_rules, own)) in
      let all = modest.count in
      let few = modest.few in
      omega (arith, each, all, few)

  infarch_size : total (size catalog) (infarch_rules catalog task.flags) ≤ 31500
  infarch_size =
      let some = total_when (size catalog) (not task.flags.no_infarch_check) (map infarch (inferior_packages catalog task.flags)) in
      let each = total_made (size catalog) infarch 5 (inferior_packages catalog task.flags) (λ p there. size_made catalog (infarch p)) in
      let fewer = fewer_packages (λ p. not (is_installed catalog p) && is_inferior catalog task.flags p) in
      omega (arith, some, each, fewer)

  kept_few : length (kept_packages catalog task.flags marks) ≤ 6300
  kept_few = fewer_packages (is_kept catalog task.flags marks)

  kept_record : (p : ℕ) → Has (kept_packages catalog task.flags marks) p → (a : Package) × (package_at catalog p ≡ Some a)
  kept_record p there = record_of p (first_of_both (is_installed catalog p) _ (of_filtered (is_kept catalog task.flags marks) (packages catalog) p there).1)

  update_size : (p : ℕ) → Has (kept_packages catalog task.flags marks) p → size catalog (successor_rule catalog task.flags marks p) ≤ 7
  update_size p there =
      let a = kept_record p there in
      let few = few_successors p a.0 a.1 in
      let own = either (marked marks.dup p) (successors catalog task.flags marks p) in
      omega (arith, few, own)
    where
      either : (b : Bool) (xs : List ℕ) → size catalog (cond b (dup p xs) (update p xs)) ≤ length xs + 4
      either true xs = size_of_some (dup p xs) xs refl
      either false xs = size_of_some (update p xs) xs refl

  updates_size : total (size catalog) (update_rules catalog task.flags marks task.jobs) ≤ 44100
  updates_size =
      let kept = kept_packages catalog task.flags marks in
      let each = total_made (size catalog) (successor_rule catalog task.flags marks) 7 (filter (has_update_rule catalog task.jobs marks) kept) (λ p there. update_size p (of_filtered (has_update_rule catalog task.jobs marks) kept p there).0) in
      let fewer = fewer_pass (has_update_rule catalog task.jobs marks) kept in
      let few = kept_few in
      omega (arith, each, fewer, few)

  features_size : total (size catalog) (feature_rules catalog task.flags marks) ≤ 44100
  features_size =
      let each = total_made (size catalog) (λ p. feature p (feature_candidates catalog task.flags marks p)) 7 (kept_packages catalog task.flags marks) (λ p there.
      let a = kept_record p there in
      let few = few_features p a.0 a.1 in
      let own = size_of_some (feature p (feature_candidates catalog task.flags marks p)) (feature_candidates catalog task.flags marks p) refl in
      omega (arith, few, own)) in
      let few = kept_few in
      omega (arith, each, few)

  job_size : (j : ℕ) (action : Action) (xs : List ℕ) → length xs ≤ 6300 → total (size catalog) (rule_of_job j action xs) ≤ 31504
  job_size j Install xs few = let own = size_of_some (install j xs) xs refl in omega (arith, own, few)
  job_size j Erase xs few =
      let made = size_made catalog (erase j xs) in
      let each = total_made raw_words (λ q. is_out q ∷ []) 5 xs (λ q there. omega arith) in
      omega (arith, made, each, few)
  job_size j Lock xs few =
      let made = size_made catalog (lock j xs) in
      let each = total_made raw_words (λ q. (if is_installed catalog q then is_in q else is_out q) ∷ []) 5 xs (λ q there. omega arith) in
      omega (arith, made, each, few)
  job_size j _ xs few = omega arith

  jobs_count : length (numbered_jobs task.jobs) ≡ 41
  jobs_count = numbered_count 0 task.jobs ∙ modest.jobs

  jobs_size : total (size catalog) (job_rules catalog task.jobs) ≤ 1291664
  jobs_size =
      let each = total_flat (size catalog) (λ job. rule_of_job job.0 job.1.action (selection catalog job.1.choice)) 31504 (numbered_jobs task.jobs)
      (λ job there. job_size job.0 job.1.action (selection catalog job.1.choice) (fewer_packages (selects catalog job.1.choice))) in
      let all = jobs_count in
      omega (arith, each, all)

  best_job_size : (j : ℕ) (xs : List ℕ) → length xs ≤ 6300 → total (size catalog) (best_job_rule j xs) ≤ 6304
  best_job_size j [] few = omega arith
  best_job_size j (x ∷ xs) few = let own = size_of_some (best_job j (x ∷ xs)) (x ∷ xs) refl in omega (arith, own, few)

  best_jobs_size : total (size catalog) (best_job_rules catalog task.jobs) ≤ 258464
  best_jobs_size =
      let each = total_flat (size catalog) (λ job. when (acts Install job.1.action && job.1.forcebest) (best_job_rule job.0 (best catalog (selection catalog job.1.choice)))) 6304 (numbered_jobs task.jobs) (λ job there.
      let some = total_when (size catalog) (acts Install job.1.action && job.1.forcebest) (best_job_rule job.0 (best catalog (selection catalog job.1.choice))) in
      let own = best_job_size job.0 (best catalog (selection catalog job.1.choice)) (fewer_packages _) in
      omega (arith, some, own)) in
      let all = jobs_count in
      omega (arith, each, all)

  best_updates_of : (job : ℕ × Job) → total (size catalog) (map (best_update_rule catalog task.flags marks job.0) (selected_installed catalog job.1.choice)) ≤ 44100
  best_updates_of job =
      let each = total_made (size catalog) (best_update_rule catalog task.flags marks job.0) 7 (selected_installed catalog job.1.choice) (λ p there.
      let a = record_of p (first_of_both (is_installed catalog p) _ (of_filtered (λ p. is_installed catalog p && selects catalog job.1.choice p) (packages catalog) p there).1) in
      let few = few_best p a.0 a.1 in
      let own = size_of_some (best_update_rule catalog task.flags marks job.0 p) (best catalog (update_candidates catalog task.flags marks p)) refl in
      omega (arith, few, own)) in
      let fewer = fewer_packages (λ p. is_installed catalog p && selects catalog job.1.choice p) in
      omega (arith, each, fewer)

  best_updates_size : total (size catalog) (best_update_rules catalog task.flags marks task.jobs) ≤ 1808100
  best_updates_size =
      let each = total_flat (size catalog) (λ job. when (acts Update job.1.action && job.1.forcebest) (map (best_update_rule catalog task.flags marks job.0) (selected_installed catalog job.1.choice))) 44100 (numbered_jobs task.jobs) (λ job there.
      let some = total_when (size catalog) (acts Update job.1.action && job.1.forcebest) (map (best_update_rule catalog task.flags marks job.0) (selected_installed catalog job.1.choice)) in
      let own = best_updates_of job in
      omega (arith, some, own)) in
      let all = jobs_count in
      omega (arith, each, all)

  rules_size : 0 + total (size catalog) (hard_rules task) ≤ 134217728
  rules_size =
      let one_ = package_rules catalog marks in
      let two = infarch_rules catalog task.flags in
      let three = update_rules catalog task.flags marks task.jobs in
      let four = feature_rules catalog task.flags marks in
      let five = job_rules catalog task.jobs in
      let six = best_job_rules catalog task.jobs in
      let j2 = total_join (size catalog) one_ two in
      let j3 = total_join (size catalog) (one_ ++ two) three in
      let j4 = total_join (size catalog) (one_ ++ two ++ three) four in
      let j5 = total_join (size catalog) (one_ ++ two ++ three ++ four) five in
      let j6 = total_join (size catalog) (one_ ++ two ++ three ++ four ++ five) six in
      let j7 = total_join (size catalog) (one_ ++ two ++ three ++ four ++ five ++ six) (best_update_rules catalog task.flags marks task.jobs) in
      let s1 = packages_size in
      let s2 = infarch_size in
      let s3 = updates_size in
      let s4 = features_size in
      let s5 = jobs_size in
      let s6 = best_jobs_size in
      let s7 = best_updates_size in
      omega (arith, j2, j3, j4, j5, j6, j7, s1, s2, s3, s4, s5, s6, s7)

  -- no rule's dependency has more clauses than one
  not_rich : (r : HardRule) → IsFrom catalog task.flags marks task.jobs r → rich_fault catalog (shape_of r) ≡ None
  not_rich (req p d) own =
      let at : is_compared (text_tree task.pool d) ≡ true = subst (λ (n : ℕ). is_compared (text_tree task.pool n) ≡ true) own.is
      (all_at (λ need. is_compared (text_tree task.pool need.dep)) (own.package_).requires_ own.need (plain_at task modest p own.package_ own.at).requires_ (of_filtered (λ need. requirement_counts catalog marks p need.dep) (own.package_).requires_ own.need own.counts).0) in
      let c = compared task.pool d at in
      ap (λ (t : Dep ℕ). rich_by p d (clause_count catalog None true t)) c.3
  not_rich (rich_con p d) own = absurd (subst (λ (ds : List ℕ). Has ds d) (no_rich_conflicts p own.package_ own.at) own.counts)
  not_rich _ own = refl

pub modest_fits : (task : Task) → IsModest task → first_fault (catalog_of task) 0 (hard_rules task) ≡ None
modest_fits task modest = passes_no_limit (catalog_of task) 0 (hard_rules task) (λ r there. not_rich task modest r (is_from (catalog_of task) task.flags (marks_of task) task.jobs r there)) (rules_size task modest)
