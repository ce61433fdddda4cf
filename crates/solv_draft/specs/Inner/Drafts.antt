-- What holds of a task that is built by calls. Contracts between functions alone speak of it.
use Rattle.std.specs.Prelude.{◌≡◌, Result, Ok}
use Rattle.solv_base.specs.Pool.{Grows}
use Rattle.solv_pool.specs.Prelude.{IsClosed, written_task}
use Rattle.solv_pool.specs.declared.jobs.Choice.{Choice}
use Rattle.solv_pool.specs.declared.jobs.Job.{Job}
use Rattle.solv_pool.specs.declared.tasks.Task.{Task}
use Rattle.solv_script.specs.States.{State}
use Rattle.solv_script.specs.Inner.WrittenForms.{HasWrittenForms}
use Rattle.solv_draft.specs.Drafts.{drawn}
use Rattle.solv_draft.specs.JobRows.{action_of}
use Rattle.solv_draft.specs.declared.draft_fault.DraftFault.{DraftFault}
use Rattle.solv_draft.specs.declared.job_row.JobRow.{JobRow}

-- all that it names is there, and its dependencies have forms that may stand at their places
pub record IsDraft (task : Task) : Type 0 where
  pub closed : IsClosed task
  pub forms : HasWrittenForms (written_task task)

-- a task has been given this
pub record HasDrawn (task : Task) (given : Result State DraftFault) : Type 0 where
  pub is : given ≡ Ok (drawn task)
  pub draft : IsDraft task

-- a task is as it was; its pool may hold more, and nothing else has changed
pub record IsKept (old new : Task) : Type 0 where
  pub task : written_task new ≡ written_task old
  pub besides : new ≡ record old { pool = new.pool }
  pub grows : Grows old.pool new.pool
  pub draft : IsDraft new

-- a job with this selection
abbrev pub job_with : JobRow → Choice → Job
job_with row choice = record { action = action_of row.action; choice = choice; forcebest = row.forcebest; cleandeps = row.cleandeps; text = row.text.now }
