-- Jobs that clean, and what jobs select.
use Rattle.std.specs.Prelude.{ℕ, Bool, ◌&&◌, List}
use Rattle.std.specs.List.{list_any}
use Rattle.solv_pool.specs.Catalog.{Catalog}
use Rattle.solv_pool.specs.JobKinds.{acts}
use Rattle.solv_pool.specs.Selections.{selects}
use Rattle.solv_pool.specs.declared.jobs.Job.{Job}
use Rattle.solv_pool.specs.declared.jobs.Action.TheVariants.{Erase}

-- a job asks that its selection goes, with what nobody needs any more
abbrev pub is_cleaning : Job → Bool
is_cleaning job = acts Erase job.action && job.cleandeps

-- some job of these selects p
abbrev pub some_job_selects : Catalog → List Job → (Job → Bool) → ℕ → Bool
some_job_selects catalog jobs these p = list_any (λ job. these job && selects catalog job.choice p) jobs
