-- The hard rules of a task, in seven lists, one after another: what packages ask of each other; inferior architectures; what installed packages are held to, by
-- update rules and by feature rules; and what jobs ask for: some of their selections, the best of these, and the best updates of installed packages.
use Rattle.std.specs.Prelude.{ℕ, length, Bool, true, false, not, ◌&&◌, ◌||◌, List, [], ◌∷◌, ◌++◌, map, filter, flat_map, ◌==◌, nat_lt, if◌then◌else◌}
use Rattle.std.specs.Option.{option_map_or}
use Rattle.std.specs.List.{list_any, list_all, enumerate_from}
use Rattle.solv_base.specs.Dependency.{Capability, plain, versioned, package_wise}
use Rattle.solv_pool.specs.Words.{passes, when}
use Rattle.solv_pool.specs.Catalog.{Catalog, catalog_of, packages, members, package_at, dependency, capability_at, is_installed, same_name}
use Rattle.solv_pool.specs.Providing.{covers}
use Rattle.solv_pool.specs.Holding.{package_meets}
use Rattle.solv_pool.specs.Installable.{is_installable, is_noarch, arch_rank}
use Rattle.solv_pool.specs.Selections.{selects, selection}
use Rattle.solv_pool.specs.JobKinds.{acts}
use Rattle.solv_pool.specs.JobMarks.{marked, marks_of}
use Rattle.solv_pool.specs.Counting.{requirement_counts, pair_counts, rich_conflict_counts}
use Rattle.solv_pool.specs.RuleMeaning.{HardRule, not_installable, req, con, rich_con, obs, same, infarch, update, dup, feature, install, erase, lock, best_job, best_update}
use Rattle.solv_pool.specs.Best.{best}
use Rattle.solv_pool.specs.Updates.{is_feature, is_legal, itself_and, coexist, dup_set}
use Rattle.solv_pool.specs.declared.packages.Package.{Package}
use Rattle.solv_pool.specs.declared.packages.Need.{Need}
use Rattle.solv_pool.specs.declared.tasks.Task.{Task}
use Rattle.solv_pool.specs.declared.tasks.Flags.{Flags}
use Rattle.solv_pool.specs.declared.jobs.Job.{Job}
use Rattle.solv_pool.specs.declared.jobs.Choice.{Choice}
use Rattle.solv_pool.specs.declared.jobs.Choice.TheVariants.{Pkg, Name, OneOf}
use Rattle.solv_pool.specs.declared.jobs.Action.{Action}
use Rattle.solv_pool.specs.declared.jobs.Action.TheVariants.{Install, Erase, Lock, Update}
use Rattle.solv_pool.specs.declared.job_marks.Marks.{Marks}

-- the rules of each package in turn
module _ (catalog : Catalog) (marks : Marks) where
  -- the requirements of p that count
  abbrev pub counted_requirements : ℕ → Package → List Need
  counted_requirements p a = filter (λ need. requirement_counts catalog marks p need.dep) a.requires_

  -- q is another member that meets the conflict of p, and counts; the system may be one
  abbrev pub is_conflicting : ℕ → ℕ → ℕ → Bool
  is_conflicting p d q = not (q == p) && (package_meets catalog (dependency catalog d) q && pair_counts catalog marks p q)

  -- a rule for each such member, by the place of the conflict, which is one that a package meets alone or not at all, and then by member
  abbrev pub conflict_rules : ℕ → Package → List HardRule
  conflict_rules p a = flat_map (λ d. map (con p d) (filter (is_conflicting p d) (members catalog))) (filter (λ d. package_wise (dependency catalog d)) a.conflicts)

  -- the other conflicts of p, where they count
  abbrev pub counted_rich_conflicts : ℕ → Package → List ℕ
  counted_rich_conflicts p a = filter (λ d. not (package_wise (dependency catalog d)) && rich_conflict_counts catalog marks p d) a.conflicts

  -- q is another package that the obsoletion of p covers, and counts
  abbrev pub is_obsoleted : ℕ → ℕ → ℕ → Bool
  is_obsoleted p d q = not (q == p) && (covers catalog d q && pair_counts catalog marks p q)

  -- a rule for each such package, by the obsoletion's place and then by package
  abbrev pub obsoletion_rules : ℕ → Package → List HardRule
  obsoletion_rules p a = flat_map (λ d. map (obs p d) (filter (is_obsoleted p d) (packages catalog))) a.obsoletes

  -- q is a later package of p's name that may not be installed beside it; two installed packages are left alone
  abbrev pub is_later_namesake : ℕ → ℕ → Bool
  is_later_namesake p q = nat_lt p q && (same_name catalog p q && (not (coexist catalog marks p q) && not (is_installed catalog p && is_installed catalog q)))

  -- what a package asks for, kind by kind: it is out where it is not installable; then each requirement that counts, and so on
  abbrev pub rules_asked_by : ℕ → Package → List HardRule
  rules_asked_by p a =
      when (not (is_installable catalog p)) (not_installable p ∷ [])
      ++ map (λ need. req p need.dep) (counted_requirements p a)
      ++ conflict_rules p a
      ++ map (rich_con p) (counted_rich_conflicts p a)
      ++ obsoletion_rules p a
      ++ map (same p) (filter (is_later_namesake p) (packages catalog))

  -- the rules that packages ask for, package by package
  abbrev pub package_rules : List HardRule
  package_rules = flat_map (λ p. option_map_or (rules_asked_by p) (package_at catalog p) []) (packages catalog)

-- inferior architectures
module _ (catalog : Catalog) (flags : Flags) where
  -- p is installable, and not noarch
  abbrev pub has_own_arch : ℕ → Bool
  has_own_arch p = is_installable catalog p && passes (package_at catalog p) (λ a. not (is_noarch catalog a))

  -- an installable package of p's name has a better architecture, neither being noarch
  abbrev pub is_inferior : ℕ → Bool
  is_inferior p = has_own_arch p
      && list_any (λ q. same_name catalog p q && (has_own_arch q && nat_lt (arch_rank catalog q) (arch_rank catalog p))) (packages catalog)

  -- what is not installed and inferior is out, unless the flags say that it is not looked at
  abbrev pub infarch_rules : List HardRule
  infarch_rules = when (not flags.no_infarch_check) (map infarch (filter (λ p. not (is_installed catalog p) && is_inferior p) (packages catalog)))

-- there is a comparison with an EVR
abbrev pub is_versioned : {N : Type 0} → Capability N → Bool
is_versioned (plain n) = false
is_versioned (versioned n c e) = true

module _ (catalog : Catalog) where
  -- by `pkg`, by `oneof`, or by a name with a version
  abbrev pub is_exact : Choice → Bool
  is_exact (Pkg q) = true
  is_exact (OneOf qs) = true
  is_exact (Name d) = passes (capability_at catalog d) is_versioned
  is_exact _ = false

module _ (catalog : Catalog) (jobs : List Job) (marks : Marks) where
  -- an install job asks exactly for packages of p's name, at least one
  abbrev pub is_asked_exactly : ℕ → Bool
  is_asked_exactly p = list_any (λ job. acts Install job.action
      && (is_exact catalog job.choice && (nat_lt 0 (length (selection catalog job.choice)) && list_all (same_name catalog p) (selection catalog job.choice)))) jobs

-- installed packages
module _ (catalog : Catalog) (flags : Flags) (marks : Marks) where
  -- p, and what may take its place
  abbrev pub update_candidates : ℕ → List ℕ
  update_candidates p = itself_and catalog (is_legal catalog flags marks p) p

  -- p, and what may take its place were every change allowed
  abbrev pub feature_candidates : ℕ → List ℕ
  feature_candidates p = itself_and catalog (is_feature catalog marks p) p

  -- what p is held to: what a distribution upgrade puts in its place, where it is marked for one, else itself and what may take its place
  abbrev pub successors : ℕ → List ℕ
  successors p = if marked marks.dup p then dup_set catalog marks p else update_candidates p

  -- the rule that it is
  abbrev pub successor_rule : ℕ → HardRule
  successor_rule p = if marked marks.dup p then dup p (successors p) else update p (successors p)

  -- p is installed, and neither erased nor allowed to go
  abbrev pub is_kept : ℕ → Bool
  is_kept p = is_installed catalog p && not (marked marks.erased p || (marked marks.allow_uninstall p || flags.allow_uninstall))

  -- all such packages, ascending
  abbrev pub kept_packages : List ℕ
  kept_packages = filter is_kept (packages catalog)

  -- for each of these, with what it is held to, unless a job asks exactly for what is to take its place: that lifts the rule of all but a multiversion package
  abbrev pub update_rules : List Job → List HardRule
  update_rules jobs = map successor_rule (filter (λ p. marked marks.multiversion p || not (is_asked_exactly catalog jobs marks p)) kept_packages)

  -- for each of these, with what may take its place were every change allowed
  abbrev pub feature_rules : List HardRule
  feature_rules = map (λ p. feature p (feature_candidates p)) kept_packages

  -- update jobs that ask for the best, of each installed package that they select and what may take its place
  abbrev pub best_update_rules : List Job → List HardRule
  best_update_rules jobs = flat_map (λ job. when (acts Update job.1.action && job.1.forcebest)
      (map (λ p. best_update job.0 p (best catalog (update_candidates p))) (filter (λ p. is_installed catalog p && selects catalog job.1.choice p) (packages catalog)))) (enumerate_from 0 jobs)

-- an install, erase or lock job gives a rule over its selection
abbrev pub rule_of_job : ℕ → Action → List ℕ → List HardRule
rule_of_job j Install xs = install j xs ∷ []
rule_of_job j Erase xs = erase j xs ∷ []
rule_of_job j Lock xs = lock j xs ∷ []
rule_of_job j _ xs = []

-- none where nothing is best
abbrev pub best_job_rule : ℕ → List ℕ → List HardRule
best_job_rule j [] = []
best_job_rule j (x ∷ xs) = best_job j (x ∷ xs) ∷ []

-- jobs, by their places
module _ (catalog : Catalog) (jobs : List Job) where
  -- install, erase and lock jobs, with their selections
  abbrev pub job_rules : List HardRule
  job_rules = flat_map (λ job. rule_of_job job.0 job.1.action (selection catalog job.1.choice)) (enumerate_from 0 jobs)

  -- install jobs that ask for the best of their selection
  abbrev pub best_job_rules : List HardRule
  best_job_rules = flat_map (λ job. when (acts Install job.1.action && job.1.forcebest) (best_job_rule job.0 (best catalog (selection catalog job.1.choice)))) (enumerate_from 0 jobs)

-- the hard rules over given marks
abbrev pub hard_rules_by : Catalog → Flags → List Job → Marks → List HardRule
hard_rules_by catalog flags jobs marks =
    package_rules catalog marks
    ++ infarch_rules catalog flags
    ++ update_rules catalog flags marks jobs
    ++ feature_rules catalog flags marks
    ++ job_rules catalog jobs
    ++ best_job_rules catalog jobs
    ++ best_update_rules catalog flags marks jobs

-- the hard rules of a task
abbrev pub hard_rules : Task → List HardRule
hard_rules task = hard_rules_by (catalog_of task) task.flags task.jobs (marks_of task)
