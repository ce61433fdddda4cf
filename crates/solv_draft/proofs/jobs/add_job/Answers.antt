use Rattle.std.proofs.Common.{◌≡◌, length, true, false, rules}
use Rattle.solv_draft.specs.JobRows.{is_row}
use Rattle.solv_draft.proofs.Drawing.{job_drawn, job_nowhere}
use Rattle.solv_draft.proofs.jobs.add_job.Goals as goal

pub returns-then-not-is_row-clause-refused : goal.returns-then-not-is_row-clause-refused
returns-then-not-is_row-clause-refused c =
    let none : is_row (length c.args.task.now.universe.packages) c.args.row.now ≡ false = search rules in
    job_nowhere c.args.task.now c.requires c.args.row.now none

pub returns-in-Ok-push-clause-done : goal.returns-in-Ok-push-clause-done
returns-in-Ok-push-clause-done c =
    let some : is_row (length c.args.task.now.universe.packages) c.args.row.now ≡ true = search rules in
    rw (c.in-Ok-push.ensures.ok, c.in-Ok.ensures) (job_drawn c.args.task.now c.requires c.args.row.now some)
