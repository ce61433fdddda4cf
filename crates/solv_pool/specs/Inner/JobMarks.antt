-- Marks by jobs alone.
use Rattle.std.specs.Prelude.{List}
use Rattle.solv_pool.specs.Catalog.{Catalog}
use Rattle.solv_pool.specs.JobKinds.{acts, job_selects}
use Rattle.solv_pool.specs.JobMarks.{mark_each, marks_with_cleaned}
use Rattle.solv_pool.specs.declared.jobs.Job.{Job}
use Rattle.solv_pool.specs.declared.job_marks.Marks.{Marks}
use Rattle.solv_pool.specs.declared.jobs.Action.TheVariants.{Erase}

-- the marks of jobs, without what is cleaned
abbrev pub marks_by : Catalog → List Job → Marks
marks_by catalog jobs = record (marks_with_cleaned catalog jobs) { erased = mark_each catalog jobs (job_selects catalog jobs (acts Erase)) }
