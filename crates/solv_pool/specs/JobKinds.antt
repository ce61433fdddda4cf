-- What the jobs of one kind select.
use Rattle.std.specs.Prelude.{ℕ, Bool, ◌&&◌, List}
use Rattle.std.specs.List.{list_any}
use Rattle.solv_pool.specs.Catalog.{Catalog, is_installed}
use Rattle.solv_pool.specs.Selections.{selects}
use Rattle.solv_pool.specs.contracts.jobs.ActionPartialEq.TheImpl.{eq-value}
use Rattle.solv_pool.specs.declared.jobs.Job.{Job}
use Rattle.solv_pool.specs.declared.jobs.Action.{Action}

-- an action is of this kind
abbrev pub acts : Action → Action → Bool
acts kind action = eq-value.it action kind

module _ (catalog : Catalog) (jobs : List Job) where
  -- some job of this kind selects p
  abbrev pub job_selects : (Action → Bool) → ℕ → Bool
  job_selects kind p = list_any (λ job. kind job.action && selects catalog job.choice p) jobs

  -- the same of installed packages alone
  abbrev pub job_selects_installed : (Action → Bool) → ℕ → Bool
  job_selects_installed kind p = is_installed catalog p && job_selects kind p
