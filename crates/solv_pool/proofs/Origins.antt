-- Where each hard rule comes from, and so what holds of all of them: one walk over the lists that they are put together from.
use Rattle.std.proofs.Common.{◌≡◌, ℕ, Bool, true, false, not, cond, ◌&&◌, List, [], ◌∷◌, ◌++◌, map, Some, inl, inr, refl, subst, if◌then◌else◌}
use Rattle.std.specs.Prelude.{filter}
use Rattle.std.specs.List.{list_all}
use Rattle.solv_pool.specs.Words.{when}
use Rattle.solv_pool.specs.Catalog.{Catalog, packages, members, package_at, is_installed}
use Rattle.solv_pool.specs.Installable.{is_installable}
use Rattle.solv_pool.specs.Selections.{selects, selection}
use Rattle.solv_pool.specs.JobKinds.{acts}
use Rattle.solv_pool.specs.declared.jobs.Action.TheVariants.{Install, Update}
use Rattle.solv_pool.specs.JobMarks.{marked}
use Rattle.solv_pool.specs.Updates.{is_feature, itself_and, feature_set, may_stay, dup_set}
use Rattle.solv_pool.specs.RuleMeaning.{HardRule, not_installable, req, con, rich_con, obs, same, infarch, update, dup, feature, install, erase, lock, best_job, best_update, Shape, some_of, none_of, as_installed, shape_of}
use Rattle.solv_pool.specs.HardRules.{counted_requirements, is_conflicting, conflict_rules, counted_rich_conflicts, obsoletion_rules, rules_asked_by, package_rules, infarch_rules, update_candidates, feature_candidates, successors, successor_rule, kept_packages, update_rules, feature_rules, rule_of_job, job_rules, best_job_rule, best_job_rules, best_update_rules, hard_rules_by}
use Rattle.solv_pool.specs.Inner.HardRules.{not_installable_rules, requirement_rules, conflicting, package_wise_conflicts, rich_conflict_rules, obsoleted, later_namesakes, same_name_rules, rules_of_package, inferior_packages, has_update_rule, numbered_jobs, selected_installed, best_update_rule}
use Rattle.solv_pool.specs.Best.{best}
use Rattle.solv_pool.specs.declared.packages.Package.{Package}
use Rattle.solv_pool.specs.declared.packages.Need.{Need}
use Rattle.solv_pool.specs.declared.jobs.Job.{Job}
use Rattle.solv_pool.specs.declared.jobs.Action.{Action}
use Rattle.solv_pool.specs.declared.jobs.Action.TheVariants as action
use Rattle.solv_pool.specs.declared.job_marks.Marks.{Marks}
use Rattle.solv_pool.specs.declared.tasks.Flags.{Flags}
use Rattle.std.proofs.lemmas.Bool.{and_parts}
use Rattle.solv_pool.proofs.Members.{Has, has_split, of_mapped, of_flat, of_filtered, of_when, of_option, all_by}

-- a requirement that counts, of a package
pub record IsRequired (catalog : Catalog) (marks : Marks) (p d : ℕ) : Type 0 where
  pub package_ : Package
  pub need : Need
  pub there : Has (packages catalog) p
  pub at : package_at catalog p ≡ Some package_
  pub counts : Has (counted_requirements catalog marks p package_) need
  pub is : need.dep ≡ d

-- a conflict that is not package-wise, of a package
pub record IsRichConflict (catalog : Catalog) (marks : Marks) (p d : ℕ) : Type 0 where
  pub package_ : Package
  pub there : Has (packages catalog) p
  pub at : package_at catalog p ≡ Some package_
  pub counts : Has (counted_rich_conflicts catalog marks p package_) d

-- a job at its place
pub record IsOfJob (jobs : List Job) (j : ℕ) (xs : List ℕ) (set : Job → List ℕ) : Type 0 where
  pub job : Job
  pub there : Has (numbered_jobs jobs) (j, job)
  pub is : set job ≡ xs

-- an installed package with its best updates
pub record IsOfUpdate (catalog : Catalog) (flags : Flags) (marks : Marks) (p : ℕ) (xs : List ℕ) : Type 0 where
  pub there : Has (packages catalog) p
  pub installed : is_installed catalog p ≡ true
  pub is : best catalog (update_candidates catalog flags marks p) ≡ xs

-- a kept package with its successors
abbrev pub IsHeld : Catalog → Flags → Marks → ℕ → List ℕ → Type 0
IsHeld catalog flags marks p xs = Has (kept_packages catalog flags marks) p × (successors catalog flags marks p ≡ xs)

-- two packages
abbrev pub AreTwo : Catalog → ℕ → ℕ → Type 0
AreTwo catalog p q = Has (packages catalog) p × Has (packages catalog) q

module _ (catalog : Catalog) where
  -- the packages of a list are those of the catalog that pass some test
  pub record IsChosen (xs : List ℕ) : Type 0 where
    pub test : ℕ → Bool
    pub is : filter test (packages catalog) ≡ xs

  chosen : (test : ℕ → Bool) → IsChosen (filter test (packages catalog))
  chosen test = record { test = test; is = refl }

  chosen_either : (b : Bool) (xs ys : List ℕ) → IsChosen xs → IsChosen ys → IsChosen (cond b xs ys)
  chosen_either true xs ys h k = h
  chosen_either false xs ys h k = k

module _ (catalog : Catalog) (flags : Flags) (marks : Marks) where
  pub successors_chosen : (p : ℕ) → IsChosen catalog (successors catalog flags marks p)
  successors_chosen p =
      chosen_either catalog (marked marks.dup p) (dup_set catalog marks p) (update_candidates catalog flags marks p)
      (chosen_either catalog (may_stay catalog marks p) (itself_and catalog (is_feature catalog marks p) p) (feature_set catalog marks p) (chosen catalog _) (chosen catalog _))
      (chosen catalog _)

module _ (catalog : Catalog) (flags : Flags) (marks : Marks) (jobs : List Job) where
  -- what a hard rule comes from
  abbrev pub IsFrom : HardRule → Type 0
  IsFrom (not_installable p) = Has (packages catalog) p
  IsFrom (req p d) = IsRequired catalog marks p d
  IsFrom (con p d q) = Has (packages catalog) p × Has (members catalog) q
  IsFrom (rich_con p d) = IsRichConflict catalog marks p d
  IsFrom (obs p d q) = AreTwo catalog p q
  IsFrom (same p q) = AreTwo catalog p q
  IsFrom (infarch p) = Has (packages catalog) p
  IsFrom (update p xs) = IsHeld catalog flags marks p xs
  IsFrom (dup p xs) = IsHeld catalog flags marks p xs
  IsFrom (feature p xs) = Has (kept_packages catalog flags marks) p × (feature_candidates catalog flags marks p ≡ xs)
  IsFrom (install j xs) = IsOfJob jobs j xs (λ job. selection catalog job.choice)
  IsFrom (erase j xs) = IsOfJob jobs j xs (λ job. selection catalog job.choice)
  IsFrom (lock j xs) = IsOfJob jobs j xs (λ job. selection catalog job.choice)
  IsFrom (best_job j xs) = IsOfJob jobs j xs (λ job. best catalog (selection catalog job.choice))
  IsFrom (best_update j p xs) = IsOfUpdate catalog flags marks p xs

  -- of a package's rules
  module _ (p : ℕ) (a : Package) (there : Has (packages catalog) p) (at : package_at catalog p ≡ Some a) where
    from_not_installable : (x : HardRule) → Has (not_installable_rules catalog p) x → IsFrom x
    from_not_installable x h = elim (of_when (not (is_installable catalog p)) (not_installable p ∷ []) x h).0 [ inl e ↦ subst IsFrom e there | inr n ↦ absurd n ]

    from_requirement : (x : HardRule) → Has (requirement_rules catalog marks p a) x → IsFrom x
    from_requirement x h =
        let m = of_mapped (λ need. req p need.dep) (counted_requirements catalog marks p a) x h in
        let own : IsRequired catalog marks p (m.0).dep = record { package_ = a; need = m.0; there = there; at = at; counts = m.1.0; is = refl } in
        subst IsFrom m.1.1 own

    from_conflict : (x : HardRule) → Has (conflict_rules catalog marks p a) x → IsFrom x
    from_conflict x h =
        let f = of_flat (λ d. map (con p d) (conflicting catalog marks p d)) (package_wise_conflicts catalog a) x h in
        let m = of_mapped (con p f.0) (conflicting catalog marks p f.0) x f.1.1 in
        let own : Has (packages catalog) p × Has (members catalog) m.0 = (there, (of_filtered (is_conflicting catalog marks p f.0) (members catalog) m.0 m.1.0).0) in
        subst IsFrom m.1.1 own

    from_rich_conflict : (x : HardRule) → Has (rich_conflict_rules catalog marks p a) x → IsFrom x
    from_rich_conflict x h =
        let m = of_mapped (rich_con p) (counted_rich_conflicts catalog marks p a) x h in
        let own : IsRichConflict catalog marks p m.0 = record { package_ = a; there = there; at = at; counts = m.1.0 } in
        subst IsFrom m.1.1 own

    from_obsoletion : (x : HardRule) → Has (obsoletion_rules catalog marks p a) x → IsFrom x
    from_obsoletion x h =
        let f = of_flat (λ d. map (obs p d) (obsoleted catalog marks p d)) a.obsoletes x h in
        let m = of_mapped (obs p f.0) (obsoleted catalog marks p f.0) x f.1.1 in
        let own : AreTwo catalog p m.0 = (there, (of_filtered _ (packages catalog) m.0 m.1.0).0) in
        subst IsFrom m.1.1 own

    from_same_name : (x : HardRule) → Has (same_name_rules catalog marks p) x → IsFrom x
    from_same_name x h =
        let m = of_mapped (same p) (later_namesakes catalog marks p) x h in
        let own : AreTwo catalog p m.0 = (there, (of_filtered _ (packages catalog) m.0 m.1.0).0) in
        subst IsFrom m.1.1 own

    from_asked : (x : HardRule) → Has (rules_asked_by catalog marks p a) x → IsFrom x
    from_asked x h =
        let one : List HardRule = not_installable_rules catalog p in
        let two : List HardRule = requirement_rules catalog marks p a in
        let three : List HardRule = conflict_rules catalog marks p a in
        let four : List HardRule = rich_conflict_rules catalog marks p a in
        let five : List HardRule = obsoletion_rules catalog marks p a in
        let six : List HardRule = same_name_rules catalog marks p in
        elim (has_split (one ++ two ++ three ++ four ++ five) six x h) [
          | inr k ↦ from_same_name x k
          | inl h5 ↦ elim (has_split (one ++ two ++ three ++ four) five x h5) [
            | inr k ↦ from_obsoletion x k
            | inl h4 ↦ elim (has_split (one ++ two ++ three) four x h4) [
              | inr k ↦ from_rich_conflict x k
              | inl h3 ↦ elim (has_split (one ++ two) three x h3) [
                | inr k ↦ from_conflict x k
                | inl h2 ↦ elim (has_split one two x h2) [ inr k ↦ from_requirement x k | inl k ↦ from_not_installable x k ]
              ]
            ]
          ]
        ]

  from_package : (x : HardRule) → Has (package_rules catalog marks) x → IsFrom x
  from_package x h =
      let f = of_flat (rules_of_package catalog marks) (packages catalog) x h in
      let o = of_option (rules_asked_by catalog marks f.0) (package_at catalog f.0) x f.1.1 in
      from_asked f.0 o.0 f.1.0 o.1.0 x o.1.1

  from_infarch : (x : HardRule) → Has (infarch_rules catalog flags) x → IsFrom x
  from_infarch x h =
      let w = of_when (not flags.no_infarch_check) (map infarch (inferior_packages catalog flags)) x h in
      let m = of_mapped infarch (inferior_packages catalog flags) x w.0 in
      subst IsFrom m.1.1 (of_filtered _ (packages catalog) m.0 m.1.0).0

  from_update : (x : HardRule) → Has (update_rules catalog flags marks jobs) x → IsFrom x
  from_update x h =
      let kept : List ℕ = kept_packages catalog flags marks in
      let m = of_mapped (successor_rule catalog flags marks) (filter (has_update_rule catalog jobs marks) kept) x h in
      subst IsFrom m.1.1 (either (marked marks.dup m.0) m.0 (successors catalog flags marks m.0) ((of_filtered (has_update_rule catalog jobs marks) kept m.0 m.1.0).0, refl))
    where
      either : (b : Bool) (p : ℕ) (xs : List ℕ) → IsHeld catalog flags marks p xs → IsFrom (if b then dup p xs else update p xs)
      either true p xs own = own
      either false p xs own = own

  from_feature : (x : HardRule) → Has (feature_rules catalog flags marks) x → IsFrom x
  from_feature x h =
      let m = of_mapped (λ p. feature p (feature_candidates catalog flags marks p)) (kept_packages catalog flags marks) x h in
      subst IsFrom m.1.1 (m.1.0, refl)

  of_job : (j : ℕ) (job : Job) → Has (numbered_jobs jobs) (j, job) → (a : Action) (x : HardRule) → Has (rule_of_job j a (selection catalog job.choice)) x → IsFrom x
  of_job j job there action.Install x (inl e) =
      let own : IsOfJob jobs j (selection catalog job.choice) (λ k. selection catalog k.choice) = record { job = job; there = there; is = refl } in
      subst IsFrom e own
  of_job j job there action.Install x (inr n) = absurd n
  of_job j job there action.Erase x (inl e) =
      let own : IsOfJob jobs j (selection catalog job.choice) (λ k. selection catalog k.choice) = record { job = job; there = there; is = refl } in
      subst IsFrom e own
  of_job j job there action.Erase x (inr n) = absurd n
  of_job j job there action.Lock x (inl e) =
      let own : IsOfJob jobs j (selection catalog job.choice) (λ k. selection catalog k.choice) = record { job = job; there = there; is = refl } in
      subst IsFrom e own
  of_job j job there action.Lock x (inr n) = absurd n
  of_job j job there _ x h = absurd h

  from_job : (x : HardRule) → Has (job_rules catalog jobs) x → IsFrom x
  from_job x h =
      let f = of_flat (λ job. rule_of_job job.0 job.1.action (selection catalog job.1.choice)) (numbered_jobs jobs) x h in
      of_job (f.0).0 (f.0).1 f.1.0 (f.0).1.action x f.1.1

  of_best : (j : ℕ) (job : Job) → Has (numbered_jobs jobs) (j, job) → (ys : List ℕ) → best catalog (selection catalog job.choice) ≡ ys → (x : HardRule) → Has (best_job_rule j ys) x → IsFrom x
  of_best j job there [] is x h = absurd h
  of_best j job there (y ∷ ys) is x (inl e) =
      let own : IsOfJob jobs j (y ∷ ys) (λ k. best catalog (selection catalog k.choice)) = record { job = job; there = there; is = is } in
      subst IsFrom e own
  of_best j job there (y ∷ ys) is x (inr n) = absurd n

  from_best_job : (x : HardRule) → Has (best_job_rules catalog jobs) x → IsFrom x
  from_best_job x h =
      let f = of_flat (λ job. when (acts Install job.1.action && job.1.forcebest) (best_job_rule job.0 (best catalog (selection catalog job.1.choice)))) (numbered_jobs jobs) x h in
      let own : List ℕ = best catalog (selection catalog (f.0).1.choice) in
      of_best (f.0).0 (f.0).1 f.1.0 own refl x (of_when (acts Install (f.0).1.action && (f.0).1.forcebest) (best_job_rule (f.0).0 own) x f.1.1).0

  from_best_update : (x : HardRule) → Has (best_update_rules catalog flags marks jobs) x → IsFrom x
  from_best_update x h =
      let f = of_flat (λ job. when (acts Update job.1.action && job.1.forcebest) (map (best_update_rule catalog flags marks job.0) (selected_installed catalog job.1.choice))) (numbered_jobs jobs) x h in
      let w = of_when (acts Update (f.0).1.action && (f.0).1.forcebest) (map (best_update_rule catalog flags marks (f.0).0) (selected_installed catalog (f.0).1.choice)) x f.1.1 in
      let m = of_mapped (best_update_rule catalog flags marks (f.0).0) (selected_installed catalog (f.0).1.choice) x w.0 in
      let s = of_filtered (λ p. is_installed catalog p && selects catalog (f.0).1.choice p) (packages catalog) m.0 m.1.0 in
      let own : IsOfUpdate catalog flags marks m.0 (best catalog (update_candidates catalog flags marks m.0)) = record { there = s.0; installed = (and_parts (is_installed catalog m.0) (selects catalog (f.0).1.choice m.0) s.1).0; is = refl } in
      subst IsFrom m.1.1 own

  -- each hard rule comes from something
  pub is_from : (x : HardRule) → Has (hard_rules_by catalog flags jobs marks) x → IsFrom x
  is_from x h =
      let one : List HardRule = package_rules catalog marks in
      let two : List HardRule = infarch_rules catalog flags in
      let three : List HardRule = update_rules catalog flags marks jobs in
      let four : List HardRule = feature_rules catalog flags marks in
      let five : List HardRule = job_rules catalog jobs in
      let six : List HardRule = best_job_rules catalog jobs in
      let seven : List HardRule = best_update_rules catalog flags marks jobs in
      elim (has_split (one ++ two ++ three ++ four ++ five ++ six) seven x h) [
        | inr k ↦ from_best_update x k
        | inl h6 ↦ elim (has_split (one ++ two ++ three ++ four ++ five) six x h6) [
          | inr k ↦ from_best_job x k
          | inl h5 ↦ elim (has_split (one ++ two ++ three ++ four) five x h5) [
            | inr k ↦ from_job x k
            | inl h4 ↦ elim (has_split (one ++ two ++ three) four x h4) [
              | inr k ↦ from_feature x k
              | inl h3 ↦ elim (has_split (one ++ two) three x h3) [
                | inr k ↦ from_update x k
                | inl h2 ↦ elim (has_split one two x h2) [ inr k ↦ from_infarch x k | inl k ↦ from_package x k ]
              ]
            ]
          ]
        ]
      ]

  -- so what holds of all that comes from something holds of each hard rule
  pub all_from : (test : HardRule → Bool) → ((x : HardRule) → IsFrom x → test x ≡ true) → list_all test (hard_rules_by catalog flags jobs marks) ≡ true
  all_from test h = all_by test (hard_rules_by catalog flags jobs marks) (λ x there. h x (is_from x there))

  -- the packages of the list that a rule asks for are those that pass some test
  abbrev pub HasChosen : Shape → Type 0
  HasChosen (some_of xs) = IsChosen catalog xs
  HasChosen (none_of xs) = IsChosen catalog xs
  HasChosen (as_installed xs) = IsChosen catalog xs
  HasChosen _ = Unit {0}

  pub has_chosen : (x : HardRule) → IsFrom x → HasChosen (shape_of x)
  has_chosen (update p xs) own = subst (IsChosen catalog) own.1 (successors_chosen catalog flags marks p)
  has_chosen (dup p xs) own = subst (IsChosen catalog) own.1 (successors_chosen catalog flags marks p)
  has_chosen (feature p xs) own = subst (IsChosen catalog) own.1 (chosen catalog _)
  has_chosen (install j xs) own = subst (IsChosen catalog) own.is (chosen catalog _)
  has_chosen (erase j xs) own = subst (IsChosen catalog) own.is (chosen catalog _)
  has_chosen (lock j xs) own = subst (IsChosen catalog) own.is (chosen catalog _)
  has_chosen (best_job j xs) own = subst (IsChosen catalog) own.is (chosen catalog _)
  has_chosen (best_update j p xs) own = subst (IsChosen catalog) own.is (chosen catalog _)
  has_chosen _ own = tt
