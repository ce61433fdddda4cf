-- What is kept is there, and each job is done.
use Rattle.std.proofs.Common.{◌≡◌, ◌+◌, ℕ, Bool, true, List, [], ◌∷◌, inl, inr, refl}
use Rattle.std.specs.List.{enumerate_from}
use Rattle.solv_list.proofs.Booleans.{first_of_both}
use Rattle.solv_pool.specs.Prelude.{catalog_of, is_installed, HardRule, install, erase, lock, meets_rule, rule_of_job}
use Rattle.solv_pool.specs.Selections.{selection}
use Rattle.solv_pool.specs.Inner.HardRules.{numbered_jobs}
use Rattle.solv_pool.specs.declared.jobs.Action.{Action}
use Rattle.solv_pool.specs.declared.jobs.Action.TheVariants.{Install, Erase, Lock}
use Rattle.solv_pool.specs.declared.jobs.Job.{Job}
use Rattle.solv_pool.specs.declared.tasks.Task.{Task}
use Rattle.solv_pool.proofs.Members.{Has, has_flat, all_by}
use Rattle.solv_answers.specs.Answers.{meets_hard_rules}
use Rattle.solv_laws.specs.Asked.{NothingGoesUnasked, JobsAreDone, is_done_with}
use Rattle.solv_laws.proofs.Packs.{passing_there}
use Rattle.solv_laws.proofs.RulesMet.{feature_met, job_met}

pub kept_stays : NothingGoesUnasked
kept_stays task set p meets kept =
    feature_met task set meets p (passing_there (catalog_of task) p _ (first_of_both (is_installed (catalog_of task) p) _ kept)) kept

-- a job has a place
has_numbered : (k : ℕ) (jobs : List Job) (job : Job) → Has jobs job → (j : ℕ) × Has (enumerate_from k jobs) (j, job)
has_numbered k [] job there = absurd there
has_numbered k (x ∷ jobs) job (inl is) = (k, inl (λ i. (k, is i)))
has_numbered k (x ∷ jobs) job (inr there) = let more = has_numbered (k + 1) jobs job there in (more.0, inr more.1)

module _ (task : Task) (set : ℕ → Bool) (meets : meets_hard_rules task set ≡ true) where
  -- a rule over a selection says that the job is done
  by_rule : (j : ℕ) (action : Action) (xs : List ℕ) → ((r : HardRule) → Has (rule_of_job j action xs) r → meets_rule (catalog_of task) r set ≡ true) → is_done_with (catalog_of task) set action xs ≡ true
  by_rule j Install xs met = met (install j xs) (inl refl)
  by_rule j Erase xs met = met (erase j xs) (inl refl)
  by_rule j Lock xs met = met (lock j xs) (inl refl)
  by_rule j _ xs met = refl

  one_done : (job : Job) → Has task.jobs job → is_done_with (catalog_of task) set job.action (selection (catalog_of task) job.choice) ≡ true
  one_done job there =
      let place = has_numbered 0 task.jobs job there in
      by_rule place.0 job.action (selection (catalog_of task) job.choice)
      (λ r own. job_met task set meets r (has_flat (λ job. rule_of_job job.0 job.1.action (selection (catalog_of task) job.1.choice)) (numbered_jobs task.jobs) (place.0, job) r place.1 own))

pub jobs_done : JobsAreDone
jobs_done task set meets = all_by (λ job. is_done_with (catalog_of task) set job.action (selection (catalog_of task) job.choice)) task.jobs (one_done task set meets)
