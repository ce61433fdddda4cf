use Rattle.std.proofs.Common.{◌≡◌, ◌++◌, drop, map}
use Rattle.solv_draft.specs.JobRows.{job_of}
use Rattle.solv_draft.proofs.job_rows.jobs_of.Given as goal

abbrev pub invariant-loop-row : goal.invariant-loop-row
invariant-loop-row l = l.jobs.items ++ map job_of (drop l.row-index l.rows) ≡ map job_of l.rows
