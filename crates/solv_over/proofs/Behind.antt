-- Which rules are made where requirements are not, and behind how many packages' requirements each stands.
use Rattle.std.proofs.Common.{◌≡◌, ℕ, suc, Bool, true, false, not, ◌&&◌, List, [], ◌∷◌, ◌++◌, map, inl, inr, refl, sym, subst, if◌then◌else◌}
use Rattle.std.specs.Prelude.{filter}
use Rattle.std.proofs.lemmas.Bool.{and_parts, false≢true}
use Rattle.solv_pool.specs.Prelude.{when, Catalog, packages, package_at, counted_requirements, conflict_rules, counted_rich_conflicts, obsoletion_rules, rules_asked_by, package_rules, infarch_rules, successors, successor_rule, feature_candidates, kept_packages, update_rules, feature_rules, rule_of_job, job_rules, best_job_rule, best_job_rules, best_update_rules, hard_rules_by, marked, HardRule, not_installable, req, con, rich_con, obs, same, infarch, update, dup, feature, is_fixed}
use Rattle.solv_pool.specs.Best.{best}
use Rattle.solv_pool.specs.Counting.{requirement_counts}
use Rattle.solv_pool.specs.Inner.HardRules.{not_installable_rules, requirement_rules, package_wise_conflicts, conflicting, rich_conflict_rules, obsoleted, same_name_rules, later_namesakes, rules_of_package, inferior_packages, has_update_rule, numbered_jobs, selected_installed, best_update_rule}
use Rattle.solv_pool.specs.Installable.{is_installable}
use Rattle.solv_pool.specs.JobKinds.{acts}
use Rattle.solv_pool.specs.Selections.{selection}
use Rattle.solv_pool.specs.declared.jobs.Action.{Action}
use Rattle.solv_pool.specs.declared.jobs.Action.TheVariants as action
use Rattle.solv_pool.specs.declared.jobs.Action.TheVariants.{Install, Update}
use Rattle.solv_pool.specs.declared.jobs.Job.{Job}
use Rattle.solv_pool.specs.declared.job_marks.Marks.{Marks}
use Rattle.solv_pool.specs.declared.packages.Package.{Package}
use Rattle.solv_pool.specs.declared.tasks.Flags.{Flags}
use Rattle.solv_pool.proofs.Members.{Has, has_split, of_mapped, of_flat, of_filtered, of_when, of_option}
use Rattle.solv_leaving.specs.Inner.Leaving.{leaving}
use Rattle.solv_over.specs.Inner.Places.{is_made}

-- how many packages, the system one of them, have what is not made before a rule
abbrev pub stage_of : ℕ → HardRule → ℕ
stage_of count (not_installable p) = p
stage_of count (req p d) = suc p
stage_of count (con p d q) = suc p
stage_of count (rich_con p d) = suc p
stage_of count (obs p d q) = suc p
stage_of count (same p q) = suc p
stage_of count _ = suc count

-- what may be dropped stands behind all packages' rules
pub free_last : (count : ℕ) (x : HardRule) → is_fixed x ≡ false → stage_of count x ≡ suc count
free_last count (not_installable p) h = absurd (false≢true (sym h))
free_last count (req p d) h = absurd (false≢true (sym h))
free_last count (con p d q) h = absurd (false≢true (sym h))
free_last count (rich_con p d) h = absurd (false≢true (sym h))
free_last count (obs p d q) h = absurd (false≢true (sym h))
free_last count (same p q) h = absurd (false≢true (sym h))
free_last count (infarch p) h = refl
free_last count _ h = refl

-- and is made
pub free_made : (left : List Bool) (x : HardRule) → is_fixed x ≡ false → is_made left x ≡ true
free_made left (req p d) h = absurd (false≢true (sym h))
free_made left (not_installable p) h = refl
free_made left _ h = refl

module _ (catalog : Catalog) (flags : Flags) (jobs : List Job) (marks : Marks) where
  -- it may be dropped
  abbrev pub IsFree : HardRule → Type 0
  IsFree x = is_fixed x ≡ false

  pub free_infarch : (x : HardRule) → Has (infarch_rules catalog flags) x → IsFree x
  free_infarch x k = subst IsFree (of_mapped infarch (inferior_packages catalog flags) x (of_when (not flags.no_infarch_check) (map infarch (inferior_packages catalog flags)) x k).0).1.1 refl

  pub free_update : (x : HardRule) → Has (update_rules catalog flags marks jobs) x → IsFree x
  free_update x h =
      let m = of_mapped (successor_rule catalog flags marks) (filter (has_update_rule catalog jobs marks) (kept_packages catalog flags marks)) x h in
      subst IsFree m.1.1 (either (marked marks.dup m.0) m.0 (successors catalog flags marks m.0))
    where
      either : (b : Bool) (p : ℕ) (xs : List ℕ) → IsFree (if b then dup p xs else update p xs)
      either true p xs = refl
      either false p xs = refl

  pub free_feature : (x : HardRule) → Has (feature_rules catalog flags marks) x → IsFree x
  free_feature x k = subst IsFree (of_mapped (λ p. feature p (feature_candidates catalog flags marks p)) (kept_packages catalog flags marks) x k).1.1 refl

  free_kind : (j : ℕ) (a : Action) (xs : List ℕ) (x : HardRule) → Has (rule_of_job j a xs) x → IsFree x
  free_kind j action.Install xs x (inl e) = subst IsFree e refl
  free_kind j action.Install xs x (inr n) = absurd n
  free_kind j action.Erase xs x (inl e) = subst IsFree e refl
  free_kind j action.Erase xs x (inr n) = absurd n
  free_kind j action.Lock xs x (inl e) = subst IsFree e refl
  free_kind j action.Lock xs x (inr n) = absurd n
  free_kind j _ xs x h = absurd h

  pub free_job : (x : HardRule) → Has (job_rules catalog jobs) x → IsFree x
  free_job x h =
      let f = of_flat (λ job. rule_of_job job.0 job.1.action (selection catalog job.1.choice)) (numbered_jobs jobs) x h in
      free_kind (f.0).0 (f.0).1.action (selection catalog (f.0).1.choice) x f.1.1

  free_best : (j : ℕ) (ys : List ℕ) (x : HardRule) → Has (best_job_rule j ys) x → IsFree x
  free_best j [] x h = absurd h
  free_best j (y ∷ ys) x (inl e) = subst IsFree e refl
  free_best j (y ∷ ys) x (inr n) = absurd n

  pub free_best_job : (x : HardRule) → Has (best_job_rules catalog jobs) x → IsFree x
  free_best_job x h =
      let f = of_flat (λ job. when (acts Install job.1.action && job.1.forcebest) (best_job_rule job.0 (best catalog (selection catalog job.1.choice)))) (numbered_jobs jobs) x h in
      let own : Job = (f.0).1 in
      free_best (f.0).0 (best catalog (selection catalog own.choice)) x (of_when (acts Install own.action && own.forcebest) (best_job_rule (f.0).0 (best catalog (selection catalog own.choice))) x f.1.1).0

  pub free_best_update : (x : HardRule) → Has (best_update_rules catalog flags marks jobs) x → IsFree x
  free_best_update x h =
      let f = of_flat (λ job. when (acts Update job.1.action && job.1.forcebest) (map (best_update_rule catalog flags marks job.0) (selected_installed catalog job.1.choice))) (numbered_jobs jobs) x h in
      let w = of_when (acts Update (f.0).1.action && (f.0).1.forcebest) (map (best_update_rule catalog flags marks (f.0).0) (selected_installed catalog (f.0).1.choice)) x f.1.1 in
      subst IsFree (of_mapped (best_update_rule catalog flags marks (f.0).0) (selected_installed catalog (f.0).1.choice) x w.0).1.1 refl

  -- of what a package asks for
  module _ (count : ℕ) (left : List Bool) where
    -- it is made, and stands behind the requirements of p
    abbrev pub IsBehind : ℕ → HardRule → Type 0
    IsBehind p x = (stage_of count x ≡ suc p) × (is_made left x ≡ true)

    -- it is made, and stands before them
    abbrev pub IsBefore : ℕ → HardRule → Type 0
    IsBefore p x = (stage_of count x ≡ p) × (is_made left x ≡ true)

    pub before_needs : (p : ℕ) (x : HardRule) → Has (not_installable_rules catalog p) x → IsBefore p x
    before_needs p x h = elim (of_when (not (is_installable catalog p)) (not_installable p ∷ []) x h).0 [ inl e ↦ subst (IsBefore p) e (refl, refl) | inr n ↦ absurd n ]

    pub behind_conflicts : (p : ℕ) (a : Package) (x : HardRule) → Has (conflict_rules catalog marks p a) x → IsBehind p x
    behind_conflicts p a x k =
        let f = of_flat (λ d. map (con p d) (conflicting catalog marks p d)) (package_wise_conflicts catalog a) x k in
        subst (IsBehind p) (of_mapped (con p f.0) (conflicting catalog marks p f.0) x f.1.1).1.1 (refl, refl)

    pub behind_rich : (p : ℕ) (a : Package) (x : HardRule) → Has (rich_conflict_rules catalog marks p a) x → IsBehind p x
    behind_rich p a x k = subst (IsBehind p) (of_mapped (rich_con p) (counted_rich_conflicts catalog marks p a) x k).1.1 (refl, refl)

    pub behind_obsoletions : (p : ℕ) (a : Package) (x : HardRule) → Has (obsoletion_rules catalog marks p a) x → IsBehind p x
    behind_obsoletions p a x k =
        let f = of_flat (λ d. map (obs p d) (obsoleted catalog marks p d)) a.obsoletes x k in
        subst (IsBehind p) (of_mapped (obs p f.0) (obsoleted catalog marks p f.0) x f.1.1).1.1 (refl, refl)

    pub behind_namesakes : (p : ℕ) (x : HardRule) → Has (same_name_rules catalog marks p) x → IsBehind p x
    behind_namesakes p x k = subst (IsBehind p) (of_mapped (same p) (later_namesakes catalog marks p) x k).1.1 (refl, refl)

  -- each of the rules that are made
  module _ (left : List Bool) where
    abbrev some : Marks
    some = leaving marks left

    -- a requirement counts only where its package is not left out
    made_need : (p : ℕ) (a : Package) (x : HardRule) → Has (requirement_rules catalog some p a) x → is_made left x ≡ true
    made_need p a x h =
        let m = of_mapped (λ need. req p need.dep) (counted_requirements catalog some p a) x h in
        let c = of_filtered (λ need. requirement_counts catalog some p need.dep) a.requires_ m.0 m.1.0 in
        let MADE : HardRule → Type 0 = λ y. is_made left y ≡ true in
        subst MADE m.1.1 (and_parts (not (marked left p)) _ c.1).0

    made_asked : (p : ℕ) (a : Package) (x : HardRule) → Has (rules_asked_by catalog some p a) x → is_made left x ≡ true
    made_asked p a x h =
        let one : List HardRule = not_installable_rules catalog p in
        let two : List HardRule = requirement_rules catalog some p a in
        let three : List HardRule = conflict_rules catalog marks p a in
        let four : List HardRule = rich_conflict_rules catalog marks p a in
        let five : List HardRule = obsoletion_rules catalog marks p a in
        let six : List HardRule = same_name_rules catalog marks p in
        elim (has_split (one ++ two ++ three ++ four ++ five) six x h) [
          | inr k ↦ (behind_namesakes 0 left p x k).1
          | inl h5 ↦ elim (has_split (one ++ two ++ three ++ four) five x h5) [
            | inr k ↦ (behind_obsoletions 0 left p a x k).1
            | inl h4 ↦ elim (has_split (one ++ two ++ three) four x h4) [
              | inr k ↦ (behind_rich 0 left p a x k).1
              | inl h3 ↦ elim (has_split (one ++ two) three x h3) [
                | inr k ↦ (behind_conflicts 0 left p a x k).1
                | inl h2 ↦ elim (has_split one two x h2) [
                  | inr k ↦ made_need p a x k
                  | inl k ↦ (before_needs 0 left p x k).1
                ]
              ]
            ]
          ]
        ]

    made_by_packages : (x : HardRule) → Has (package_rules catalog some) x → is_made left x ≡ true
    made_by_packages x h =
        let f = of_flat (rules_of_package catalog some) (packages catalog) x h in
        let o = of_option (rules_asked_by catalog some f.0) (package_at catalog f.0) x f.1.1 in
        made_asked f.0 o.0 x o.1.1

    pub all_made : (x : HardRule) → Has (hard_rules_by catalog flags jobs some) x → is_made left x ≡ true
    all_made x h =
        let one : List HardRule = package_rules catalog some in
        let two : List HardRule = infarch_rules catalog flags in
        let three : List HardRule = update_rules catalog flags marks jobs in
        let four : List HardRule = feature_rules catalog flags marks in
        let five : List HardRule = job_rules catalog jobs in
        let six : List HardRule = best_job_rules catalog jobs in
        let seven : List HardRule = best_update_rules catalog flags marks jobs in
        elim (has_split (one ++ two ++ three ++ four ++ five ++ six) seven x h) [
          | inr k ↦ free_made left x (free_best_update x k)
          | inl h6 ↦ elim (has_split (one ++ two ++ three ++ four ++ five) six x h6) [
            | inr k ↦ free_made left x (free_best_job x k)
            | inl h5 ↦ elim (has_split (one ++ two ++ three ++ four) five x h5) [
              | inr k ↦ free_made left x (free_job x k)
              | inl h4 ↦ elim (has_split (one ++ two ++ three) four x h4) [
                | inr k ↦ free_made left x (free_feature x k)
                | inl h3 ↦ elim (has_split (one ++ two) three x h3) [
                  | inr k ↦ free_made left x (free_update x k)
                  | inl h2 ↦ elim (has_split one two x h2) [
                    | inr k ↦ free_made left x (free_infarch x k)
                    | inl k ↦ made_by_packages x k
                  ]
                ]
              ]
            ]
          ]
        ]
