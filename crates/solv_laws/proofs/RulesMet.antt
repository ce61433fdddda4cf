-- A set that meets the hard rules meets the rules of each package, of what is kept, and of jobs.
use Rattle.std.proofs.Common.{◌≡◌, ℕ, Bool, true, List, ◌++◌, Some}
use Rattle.solv_pool.specs.Prelude.{Catalog, catalog_of, packages, package_at, marks_of, HardRule, feature, meets_rule, rules_asked_by, package_rules, infarch_rules, update_rules, feature_rules, job_rules, best_job_rules, best_update_rules, hard_rules, is_kept, kept_packages, feature_candidates}
use Rattle.solv_pool.specs.Inner.RuleMeaning.{holds_some}
use Rattle.solv_pool.specs.Inner.HardRules.{rules_of_package}
use Rattle.solv_pool.specs.declared.packages.Package.{Package}
use Rattle.solv_pool.specs.declared.tasks.Task.{Task}
use Rattle.solv_pool.proofs.Members.{Has, has_front, has_back, has_flat, has_option, has_mapped, has_filtered, all_at}
use Rattle.solv_answers.specs.Answers.{meets_hard_rules}
use Rattle.solv_laws.proofs.Packs.{package_there}

module _ (task : Task) (set : ℕ → Bool) (meets : meets_hard_rules task set ≡ true) where
  abbrev catalog : Catalog
  catalog = catalog_of task

  abbrev of_packages : List HardRule
  of_packages = package_rules catalog (marks_of task)

  abbrev to_architectures : List HardRule
  to_architectures = of_packages ++ infarch_rules catalog task.flags

  abbrev to_updates : List HardRule
  to_updates = to_architectures ++ update_rules catalog task.flags (marks_of task) task.jobs

  abbrev to_features : List HardRule
  to_features = to_updates ++ feature_rules catalog task.flags (marks_of task)

  abbrev to_jobs : List HardRule
  to_jobs = to_features ++ job_rules catalog task.jobs

  abbrev to_best_jobs : List HardRule
  to_best_jobs = to_jobs ++ best_job_rules catalog task.jobs

  met_by_jobs : (r : HardRule) → Has to_jobs r → meets_rule catalog r set ≡ true
  met_by_jobs r there =
      all_at (λ r. meets_rule catalog r set) (hard_rules task) r meets
      (has_front to_best_jobs (best_update_rules catalog task.flags (marks_of task) task.jobs) r (has_front to_jobs (best_job_rules catalog task.jobs) r there))

  pub job_met : (r : HardRule) → Has (job_rules catalog task.jobs) r → meets_rule catalog r set ≡ true
  job_met r there = met_by_jobs r (has_back to_features (job_rules catalog task.jobs) r there)

  met_by_features : (r : HardRule) → Has to_features r → meets_rule catalog r set ≡ true
  met_by_features r there = met_by_jobs r (has_front to_features (job_rules catalog task.jobs) r there)

  -- what is kept is there, or what may take its place
  pub feature_met : (p : ℕ) → Has (packages catalog) p → is_kept catalog task.flags (marks_of task) p ≡ true
      → holds_some (feature_candidates catalog task.flags (marks_of task) p) set ≡ true
  feature_met p there kept =
      let make : ℕ → HardRule = λ p. feature p (feature_candidates catalog task.flags (marks_of task) p) in
      met_by_features (make p)
      (has_back to_updates (feature_rules catalog task.flags (marks_of task)) (make p)
      (has_mapped make (kept_packages catalog task.flags (marks_of task)) p (has_filtered (is_kept catalog task.flags (marks_of task)) (packages catalog) p there kept)))

  -- what a package asks for
  pub asked_met : (p : ℕ) (a : Package) → package_at catalog p ≡ Some a → (r : HardRule) → Has (rules_asked_by catalog (marks_of task) p a) r → meets_rule catalog r set ≡ true
  asked_met p a is r there =
      met_by_features r
      (has_front to_updates (feature_rules catalog task.flags (marks_of task)) r
      (has_front to_architectures (update_rules catalog task.flags (marks_of task) task.jobs) r
      (has_front of_packages (infarch_rules catalog task.flags) r
      (has_flat (rules_of_package catalog (marks_of task)) (packages catalog) p r (package_there catalog p a is)
      (has_option (rules_asked_by catalog (marks_of task) p) (package_at catalog p) a r is there)))))
