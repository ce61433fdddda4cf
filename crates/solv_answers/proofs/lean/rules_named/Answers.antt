use Rattle.std.proofs.Common.{[], length, subst, sym}
use Rattle.solv_pool.specs.declared.job_marks.Marks.{Marks}
use Rattle.solv_jobs.specs.Marking.{HasMarks}
use Rattle.solv_answers.proofs.Made.{marks_whole}
use Rattle.solv_answers.proofs.lean.rules_named.Goals as goal
