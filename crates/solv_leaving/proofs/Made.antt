-- Which of the hard rules are made where packages are left out, and whose selections they carry.
use Rattle.std.proofs.Common.{◌≡◌, ◌⊎◌, ℕ, ◌+◌, Bool, true, false, not, ◌&&◌, List, [], ◌∷◌, ◌++◌, map, inl, inr, refl, sym, ◌∙◌, ap, subst, if◌then◌else◌}
use Rattle.std.specs.Prelude.{filter}
use Rattle.std.specs.List.{enumerate_from}
use Rattle.std.proofs.lemmas.Bool.{and_parts, and_from, cases_Bool}
use Rattle.solv_pool.specs.Prelude.{when, is_among, Catalog, packages, package_at, counted_requirements, conflict_rules, counted_rich_conflicts, obsoletion_rules, rules_asked_by, package_rules, infarch_rules, successors, successor_rule, feature_candidates, kept_packages, update_rules, feature_rules, rule_of_job, job_rules, best_job_rule, best_job_rules, best_update_rules, hard_rules_by, marked, HardRule, not_installable, req, con, rich_con, obs, same, infarch, update, dup, feature, install, best_job}
use Rattle.solv_pool.specs.Best.{best}
use Rattle.solv_pool.specs.Counting.{requirement_counts}
use Rattle.solv_pool.specs.Inner.HardRules.{not_installable_rules, requirement_rules, package_wise_conflicts, conflicting, rich_conflict_rules, obsoleted, same_name_rules, later_namesakes, rules_of_package, inferior_packages, has_update_rule, numbered_jobs, selected_installed, best_update_rule}
use Rattle.solv_pool.specs.Installable.{is_installable}
use Rattle.solv_pool.specs.JobKinds.{job_selects}
use Rattle.solv_pool.specs.JobKinds.{acts}
use Rattle.solv_pool.specs.declared.jobs.Action.TheVariants.{Install, Update}
use Rattle.solv_pool.specs.Selections.{selects, selection}
use Rattle.solv_pool.specs.declared.jobs.Action.{Action}
use Rattle.solv_pool.specs.declared.jobs.Action.TheVariants as action
use Rattle.solv_pool.specs.declared.jobs.Job.{Job}
use Rattle.solv_pool.specs.declared.job_marks.Marks.{Marks}
use Rattle.solv_pool.specs.declared.packages.Package.{Package}
use Rattle.solv_pool.specs.declared.tasks.Flags.{Flags}
use Rattle.solv_pool.proofs.Among.{among_filter}
use Rattle.solv_pool.proofs.Members.{Has, has_front, has_back, has_split, has_mapped, has_flat, has_filtered, has_option, of_mapped, of_flat, of_filtered, of_when, of_option, any_at}
use Rattle.solv_leaving.specs.Inner.Leaving.{leaving}

-- a numbered job is a job
of_numbered : (i : ℕ) (jobs : List Job) (j : ℕ) (job : Job) → Has (enumerate_from i jobs) (j, job) → Has jobs job
of_numbered i [] j job h = absurd h
of_numbered i (x ∷ jobs) j job (inl e) = inl (ap (λ w. w.1) e)
of_numbered i (x ∷ jobs) j job (inr k) = inr (of_numbered (i + 1) jobs j job k)

module _ (catalog : Catalog) (flags : Flags) (jobs : List Job) (marks : Marks) where
  -- an install job selects each package that a rule of an install job names
  abbrev pub Selects : HardRule → Type 0
  Selects (install j xs) = (q : ℕ) → Has xs q → job_selects catalog jobs (acts Install) q ≡ true
  Selects (best_job j xs) = (q : ℕ) → Has xs q → job_selects catalog jobs (acts Install) q ≡ true
  Selects _ = Unit {0}

  of_not_installable : (p : ℕ) (x : HardRule) → Has (not_installable_rules catalog p) x → Selects x
  of_not_installable p x h = elim (of_when (not (is_installable catalog p)) (not_installable p ∷ []) x h).0 [ inl e ↦ subst Selects e tt | inr n ↦ absurd n ]

  of_asked : (p : ℕ) (a : Package) (x : HardRule) → Has (rules_asked_by catalog marks p a) x → Selects x
  of_asked p a x h =
      let one : List HardRule = not_installable_rules catalog p in
      let two : List HardRule = requirement_rules catalog marks p a in
      let three : List HardRule = conflict_rules catalog marks p a in
      let four : List HardRule = rich_conflict_rules catalog marks p a in
      let five : List HardRule = obsoletion_rules catalog marks p a in
      let six : List HardRule = same_name_rules catalog marks p in
      elim (has_split (one ++ two ++ three ++ four ++ five) six x h) [
        | inr k ↦ subst Selects (of_mapped (same p) (later_namesakes catalog marks p) x k).1.1 tt
        | inl h5 ↦ elim (has_split (one ++ two ++ three ++ four) five x h5) [
          | inr k ↦ let f = of_flat (λ d. map (obs p d) (obsoleted catalog marks p d)) a.obsoletes x k in subst Selects (of_mapped (obs p f.0) (obsoleted catalog marks p f.0) x f.1.1).1.1 tt
          | inl h4 ↦ elim (has_split (one ++ two ++ three) four x h4) [
            | inr k ↦ subst Selects (of_mapped (rich_con p) (counted_rich_conflicts catalog marks p a) x k).1.1 tt
            | inl h3 ↦ elim (has_split (one ++ two) three x h3) [
              | inr k ↦ let f = of_flat (λ d. map (con p d) (conflicting catalog marks p d)) (package_wise_conflicts catalog a) x k in subst Selects (of_mapped (con p f.0) (conflicting catalog marks p f.0) x f.1.1).1.1 tt
              | inl h2 ↦ elim (has_split one two x h2) [
                | inr k ↦ subst Selects (of_mapped (λ need. req p need.dep) (counted_requirements catalog marks p a) x k).1.1 tt
                | inl k ↦ of_not_installable p x k
              ]
            ]
          ]
        ]
      ]

  of_package : (x : HardRule) → Has (package_rules catalog marks) x → Selects x
  of_package x h =
      let f = of_flat (rules_of_package catalog marks) (packages catalog) x h in
      let o = of_option (rules_asked_by catalog marks f.0) (package_at catalog f.0) x f.1.1 in
      of_asked f.0 o.0 x o.1.1

  of_update : (x : HardRule) → Has (update_rules catalog flags marks jobs) x → Selects x
  of_update x h =
      let m = of_mapped (successor_rule catalog flags marks) (filter (has_update_rule catalog jobs marks) (kept_packages catalog flags marks)) x h in
      subst Selects m.1.1 (either (marked marks.dup m.0) m.0 (successors catalog flags marks m.0))
    where
      either : (b : Bool) (p : ℕ) (xs : List ℕ) → Selects (if b then dup p xs else update p xs)
      either true p xs = tt
      either false p xs = tt

  -- a job that an action is of selects what its rule names
  selected_by : (j : ℕ) (job : Job) → Has (numbered_jobs jobs) (j, job) → acts Install job.action ≡ true → (q : ℕ) → selects catalog job.choice q ≡ true → job_selects catalog jobs (acts Install) q ≡ true
  selected_by j job there is q chosen =
      any_at (λ (z : Job). acts Install z.action && selects catalog z.choice q) jobs job (of_numbered 0 jobs j job there) (and_from (acts Install job.action) (selects catalog job.choice q) is chosen)

  of_kind : (j : ℕ) (job : Job) → Has (numbered_jobs jobs) (j, job) → (a : Action) → job.action ≡ a → (x : HardRule) → Has (rule_of_job j a (selection catalog job.choice)) x → Selects x
  of_kind j job there action.Install is x (inl e) =
      let all : Selects (install j (selection catalog job.choice)) = λ q k. selected_by j job there (ap (acts Install) is) q (of_filtered (selects catalog job.choice) (packages catalog) q k).1 in
      subst Selects e all
  of_kind j job there action.Install is x (inr n) = absurd n
  of_kind j job there action.Erase is x (inl e) = subst Selects e tt
  of_kind j job there action.Erase is x (inr n) = absurd n
  of_kind j job there action.Lock is x (inl e) = subst Selects e tt
  of_kind j job there action.Lock is x (inr n) = absurd n
  of_kind j job there _ is x h = absurd h

  of_job : (x : HardRule) → Has (job_rules catalog jobs) x → Selects x
  of_job x h =
      let f = of_flat (λ job. rule_of_job job.0 job.1.action (selection catalog job.1.choice)) (numbered_jobs jobs) x h in
      of_kind (f.0).0 (f.0).1 f.1.0 (f.0).1.action refl x f.1.1

  of_best : (j : ℕ) (ys : List ℕ) → ((q : ℕ) → Has ys q → job_selects catalog jobs (acts Install) q ≡ true) → (x : HardRule) → Has (best_job_rule j ys) x → Selects x
  of_best j [] all x h = absurd h
  of_best j (y ∷ ys) all x (inl e) = subst Selects e all
  of_best j (y ∷ ys) all x (inr n) = absurd n

  of_best_job : (x : HardRule) → Has (best_job_rules catalog jobs) x → Selects x
  of_best_job x h =
      let f = of_flat (λ job. when (acts Install job.1.action && job.1.forcebest) (best_job_rule job.0 (best catalog (selection catalog job.1.choice)))) (numbered_jobs jobs) x h in
      let own : Job = (f.0).1 in
      let w = of_when (acts Install own.action && own.forcebest) (best_job_rule (f.0).0 (best catalog (selection catalog own.choice))) x f.1.1 in
      let is : acts Install own.action ≡ true = (and_parts (acts Install own.action) own.forcebest w.1).0 in
      of_best (f.0).0 (best catalog (selection catalog own.choice)) (λ q k.
      let among : is_among (selection catalog own.choice) q ≡ true = (and_parts (is_among (selection catalog own.choice) q) _ (of_filtered _ (packages catalog) q k).1).0 in
      selected_by (f.0).0 own f.1.0 is q (and_parts (is_among (packages catalog) q) (selects catalog own.choice q) (sym (among_filter (selects catalog own.choice) (packages catalog) q) ∙ among)).1) x w.0

  of_best_update : (x : HardRule) → Has (best_update_rules catalog flags marks jobs) x → Selects x
  of_best_update x h =
      let f = of_flat (λ job. when (acts Update job.1.action && job.1.forcebest) (map (best_update_rule catalog flags marks job.0) (selected_installed catalog job.1.choice))) (numbered_jobs jobs) x h in
      let w = of_when (acts Update (f.0).1.action && (f.0).1.forcebest) (map (best_update_rule catalog flags marks (f.0).0) (selected_installed catalog (f.0).1.choice)) x f.1.1 in
      subst Selects (of_mapped (best_update_rule catalog flags marks (f.0).0) (selected_installed catalog (f.0).1.choice) x w.0).1.1 tt

  -- of all rules
  pub selects_all : (x : HardRule) → Has (hard_rules_by catalog flags jobs marks) x → Selects x
  selects_all x h =
      let one : List HardRule = package_rules catalog marks in
      let two : List HardRule = infarch_rules catalog flags in
      let three : List HardRule = update_rules catalog flags marks jobs in
      let four : List HardRule = feature_rules catalog flags marks in
      let five : List HardRule = job_rules catalog jobs in
      let six : List HardRule = best_job_rules catalog jobs in
      let seven : List HardRule = best_update_rules catalog flags marks jobs in
      elim (has_split (one ++ two ++ three ++ four ++ five ++ six) seven x h) [
        | inr k ↦ of_best_update x k
        | inl h6 ↦ elim (has_split (one ++ two ++ three ++ four ++ five) six x h6) [
          | inr k ↦ of_best_job x k
          | inl h5 ↦ elim (has_split (one ++ two ++ three ++ four) five x h5) [
            | inr k ↦ of_job x k
            | inl h4 ↦ elim (has_split (one ++ two ++ three) four x h4) [
              | inr k ↦ subst Selects (of_mapped (λ p. feature p (feature_candidates catalog flags marks p)) (kept_packages catalog flags marks) x k).1.1 tt
              | inl h3 ↦ elim (has_split (one ++ two) three x h3) [
                | inr k ↦ of_update x k
                | inl h2 ↦ elim (has_split one two x h2) [
                  | inr k ↦ subst Selects (of_mapped infarch (inferior_packages catalog flags) x (of_when (not flags.no_infarch_check) (map infarch (inferior_packages catalog flags)) x k).0).1.1 tt
                  | inl k ↦ of_package x k
                ]
              ]
            ]
          ]
        ]
      ]

-- a requirement of a package that is left out
pub record IsUnmade (left : List Bool) (x : HardRule) : Type 0 where
  pub pack : ℕ
  pub dep : ℕ
  pub is : req pack dep ≡ x
  pub out : marked left pack ≡ true

module _ (catalog : Catalog) (flags : Flags) (jobs : List Job) (marks : Marks) (left : List Bool) where
  abbrev whole : Marks
  whole = leaving marks []

  abbrev some : Marks
  some = leaving marks left

  -- each rule is made, or is such a requirement
  made_requirement : (p : ℕ) (a : Package) (x : HardRule) → Has (requirement_rules catalog whole p a) x → Has (requirement_rules catalog some p a) x ⊎ IsUnmade left x
  made_requirement p a x h =
      let m = of_mapped (λ need. req p need.dep) (counted_requirements catalog whole p a) x h in
      let f = of_filtered (λ need. requirement_counts catalog whole p need.dep) a.requires_ m.0 m.1.0 in
      elim (cases_Bool (marked left p)) [
        | inl y ↦ let own : IsUnmade left x = record { pack = p; dep = (m.0).dep; is = m.1.1; out = y } in inr own
        | inr n ↦
            let counts : requirement_counts catalog some p (m.0).dep ≡ true = and_from (not (marked left p)) _ (ap not n) f.1 in
            let R : HardRule → Type 0 = λ z. Has (requirement_rules catalog some p a) z in
            inl (subst R m.1.1 (has_mapped (λ need. req p need.dep) (counted_requirements catalog some p a) m.0 (has_filtered (λ need. requirement_counts catalog some p need.dep) a.requires_ m.0 f.0 counts)))
      ]

  made_asked : (p : ℕ) (a : Package) (x : HardRule) → Has (rules_asked_by catalog whole p a) x → Has (rules_asked_by catalog some p a) x ⊎ IsUnmade left x
  made_asked p a x h =
      let one : List HardRule = not_installable_rules catalog p in
      let two : List HardRule = requirement_rules catalog whole p a in
      let new : List HardRule = requirement_rules catalog some p a in
      let three : List HardRule = conflict_rules catalog marks p a in
      let four : List HardRule = rich_conflict_rules catalog marks p a in
      let five : List HardRule = obsoletion_rules catalog marks p a in
      let six : List HardRule = same_name_rules catalog marks p in
      elim (has_split (one ++ two ++ three ++ four ++ five) six x h) [
        | inr k ↦ inl (has_back (one ++ new ++ three ++ four ++ five) six x k)
        | inl h5 ↦ elim (has_split (one ++ two ++ three ++ four) five x h5) [
          | inr k ↦ inl (has_front _ six x (has_back (one ++ new ++ three ++ four) five x k))
          | inl h4 ↦ elim (has_split (one ++ two ++ three) four x h4) [
            | inr k ↦ inl (has_front _ six x (has_front _ five x (has_back (one ++ new ++ three) four x k)))
            | inl h3 ↦ elim (has_split (one ++ two) three x h3) [
              | inr k ↦ inl (has_front _ six x (has_front _ five x (has_front _ four x (has_back (one ++ new) three x k))))
              | inl h2 ↦ elim (has_split one two x h2) [
                | inr k ↦ elim (made_requirement p a x k) [
                  | inl m ↦ inl (has_front _ six x (has_front _ five x (has_front _ four x (has_front _ three x (has_back one new x m)))))
                  | inr u ↦ inr u
                ]
                | inl k ↦ inl (has_front _ six x (has_front _ five x (has_front _ four x (has_front _ three x (has_front one new x k)))))
              ]
            ]
          ]
        ]
      ]

  made_package : (x : HardRule) → Has (package_rules catalog whole) x → Has (package_rules catalog some) x ⊎ IsUnmade left x
  made_package x h =
      let f = of_flat (rules_of_package catalog whole) (packages catalog) x h in
      let o = of_option (rules_asked_by catalog whole f.0) (package_at catalog f.0) x f.1.1 in
      elim (made_asked f.0 o.0 x o.1.1) [
        | inl k ↦ inl (has_flat (rules_of_package catalog some) (packages catalog) f.0 x f.1.0 (has_option (rules_asked_by catalog some f.0) (package_at catalog f.0) o.0 x o.1.0 k))
        | inr u ↦ inr u
      ]

  pub made_or_unmade : (x : HardRule) → Has (hard_rules_by catalog flags jobs whole) x → Has (hard_rules_by catalog flags jobs some) x ⊎ IsUnmade left x
  made_or_unmade x h =
      let one : List HardRule = package_rules catalog whole in
      let new : List HardRule = package_rules catalog some in
      let two : List HardRule = infarch_rules catalog flags in
      let three : List HardRule = update_rules catalog flags marks jobs in
      let four : List HardRule = feature_rules catalog flags marks in
      let five : List HardRule = job_rules catalog jobs in
      let six : List HardRule = best_job_rules catalog jobs in
      let seven : List HardRule = best_update_rules catalog flags marks jobs in
      elim (has_split (one ++ two ++ three ++ four ++ five ++ six) seven x h) [
        | inr k ↦ inl (has_back (new ++ two ++ three ++ four ++ five ++ six) seven x k)
        | inl h6 ↦ elim (has_split (one ++ two ++ three ++ four ++ five) six x h6) [
          | inr k ↦ inl (has_front _ seven x (has_back (new ++ two ++ three ++ four ++ five) six x k))
          | inl h5 ↦ elim (has_split (one ++ two ++ three ++ four) five x h5) [
            | inr k ↦ inl (has_front _ seven x (has_front _ six x (has_back (new ++ two ++ three ++ four) five x k)))
            | inl h4 ↦ elim (has_split (one ++ two ++ three) four x h4) [
              | inr k ↦ inl (has_front _ seven x (has_front _ six x (has_front _ five x (has_back (new ++ two ++ three) four x k))))
              | inl h3 ↦ elim (has_split (one ++ two) three x h3) [
                | inr k ↦ inl (has_front _ seven x (has_front _ six x (has_front _ five x (has_front _ four x (has_back (new ++ two) three x k)))))
                | inl h2 ↦ elim (has_split one two x h2) [
                  | inr k ↦ inl (has_front _ seven x (has_front _ six x (has_front _ five x (has_front _ four x (has_front _ three x (has_back new two x k))))))
                  | inl k ↦ elim (made_package x k) [
                    | inl m ↦ inl (has_front _ seven x (has_front _ six x (has_front _ five x (has_front _ four x (has_front _ three x (has_front new two x m))))))
                    | inr u ↦ inr u
                  ]
                ]
              ]
            ]
          ]
        ]
      ]

  made_asked_whole : (p : ℕ) (a : Package) (x : HardRule) → Has (requirement_rules catalog some p a) x → Has (requirement_rules catalog whole p a) x
  made_asked_whole p a x h =
      let m = of_mapped (λ need. req p need.dep) (counted_requirements catalog some p a) x h in
      let f = of_filtered (λ need. requirement_counts catalog some p need.dep) a.requires_ m.0 m.1.0 in
      let counts : requirement_counts catalog whole p (m.0).dep ≡ true = (and_parts (not (marked left p)) _ f.1).1 in
      let R : HardRule → Type 0 = λ z. Has (requirement_rules catalog whole p a) z in
      subst R m.1.1 (has_mapped (λ need. req p need.dep) (counted_requirements catalog whole p a) m.0 (has_filtered (λ need. requirement_counts catalog whole p need.dep) a.requires_ m.0 f.0 counts))

  -- what is in one list more than in another is so with the same after both
  widened : (xs ys zs : List HardRule) (x : HardRule) → (Has xs x → Has ys x) → Has (xs ++ zs) x → Has (ys ++ zs) x
  widened xs ys zs x wide h = elim (has_split xs zs x h) [ inl k ↦ has_front ys zs x (wide k) | inr k ↦ has_back ys zs x k ]

  asked_whole : (p : ℕ) (a : Package) (x : HardRule) → Has (rules_asked_by catalog some p a) x → Has (rules_asked_by catalog whole p a) x
  asked_whole p a x =
      let one : List HardRule = not_installable_rules catalog p in
      let two : List HardRule = requirement_rules catalog whole p a in
      let new : List HardRule = requirement_rules catalog some p a in
      let begun : Has (one ++ new) x → Has (one ++ two) x = λ h. elim (has_split one new x h) [ inl k ↦ has_front one two x k | inr k ↦ has_back one two x (made_asked_whole p a x k) ] in
      widened _ _ (same_name_rules catalog marks p) x (widened _ _ (obsoletion_rules catalog marks p a) x (widened _ _ (rich_conflict_rules catalog marks p a) x (widened _ _ (conflict_rules catalog marks p a) x begun)))

  package_whole : (x : HardRule) → Has (package_rules catalog some) x → Has (package_rules catalog whole) x
  package_whole x h =
      let f = of_flat (rules_of_package catalog some) (packages catalog) x h in
      let o = of_option (rules_asked_by catalog some f.0) (package_at catalog f.0) x f.1.1 in
      has_flat (rules_of_package catalog whole) (packages catalog) f.0 x f.1.0 (has_option (rules_asked_by catalog whole f.0) (package_at catalog f.0) o.0 x o.1.0 (asked_whole f.0 o.0 x o.1.1))

  -- each rule that is made is a hard rule
  pub made_is_hard : (x : HardRule) → Has (hard_rules_by catalog flags jobs some) x → Has (hard_rules_by catalog flags jobs whole) x
  made_is_hard x =
      widened _ _ (best_update_rules catalog flags marks jobs) x (widened _ _ (best_job_rules catalog jobs) x (widened _ _ (job_rules catalog jobs) x
      (widened _ _ (feature_rules catalog flags marks) x (widened _ _ (update_rules catalog flags marks jobs) x (widened _ _ (infarch_rules catalog flags) x (package_whole x))))))
