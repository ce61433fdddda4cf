use Rattle.std.proofs.Common.{◌≡◌, ◌++◌, map, drop}
use Rattle.std.specs.Prelude.{codes}
use Rattle.solv_io.specs.Lines.{ended_lines}
use Rattle.solv_writing.proofs.round_lines.put_jobs.Given as goal

abbrev pub invariant-loop-job : goal.invariant-loop-job
invariant-loop-job l = l.into.items ++ ended_lines (map (λ job. codes "job " ++ job.text) (drop l.job-index l.jobs)) ≡ l.fn.into.items ++ ended_lines (map (λ job. codes "job " ++ job.text) l.jobs)
