-- Tables of packages that jobs are written into, one job after another.
use Rattle.std.specs.Prelude.{ℕ, ℤ, pos, negsuc, Bool, true, false, not, ◌||◌, List, [], ◌∷◌, filter, slice_set, Option, Some, None, if◌then◌else◌}
use Rattle.std.specs.Option.{option_map_or}
use Rattle.solv_pool.specs.Prelude.{Catalog, is_installed}
use Rattle.solv_pool.specs.Selections.{selection}
use Rattle.solv_pool.specs.JobKinds.{job_selects, job_selects_installed}
use Rattle.solv_pool.specs.Inner.JobKinds.{is_cleaning}
use Rattle.solv_pool.specs.JobKinds.{acts}
use Rattle.solv_pool.specs.declared.jobs.Action.TheVariants.{Install, UserInstalled, Update, Distupgrade, Verify, Multiversion, AllowUninstall, Erase}
use Rattle.solv_pool.specs.Cleaning.{is_given_up}
use Rattle.solv_pool.specs.declared.jobs.Job.{Job}
use Rattle.solv_pool.specs.declared.jobs.Action.{Action}
use Rattle.solv_pool.specs.declared.jobs.Action.TheVariants.{Favor, Disfavor}
use Rattle.solv_jobs.specs.declared.marking.Mark.{Mark}
use Rattle.solv_jobs.specs.declared.marking.Mark.TheVariants as mark

-- a value at each of these numbers
abbrev pub with_values : {T : Type 0} → T → List ℕ → List T → List T
with_values x [] table = table
with_values x (p ∷ ps) table = with_values x ps (slice_set table p x)

-- the jobs that make a mark
abbrev pub makes : Mark → Job → Bool
makes mark.Update job = acts Update job.action
makes mark.Dup job = acts Distupgrade job.action
makes mark.Verify job = acts Verify job.action
makes mark.Multiversion job = acts Multiversion job.action
makes mark.AllowUninstall job = acts AllowUninstall job.action
makes mark.Erased job = acts Erase job.action
makes mark.Asked job = acts Install job.action
makes mark.UserInstalled job = acts UserInstalled job.action
makes mark.GivenUp job = is_cleaning job

-- the mark is one of installed packages alone
abbrev pub is_of_installed : Mark → Bool
is_of_installed mark.Update = true
is_of_installed mark.Dup = true
is_of_installed mark.Verify = true
is_of_installed mark.Multiversion = false
is_of_installed mark.AllowUninstall = true
is_of_installed mark.Erased = false
is_of_installed mark.Asked = false
is_of_installed mark.UserInstalled = true
is_of_installed mark.GivenUp = true

module _ (catalog : Catalog) (m : Mark) where
  -- p may bear the mark
  abbrev pub may_bear : ℕ → Bool
  may_bear p = not (is_of_installed m) || is_installed catalog p

  -- the table of a mark after one job, and after these jobs in order
  abbrev pub with_job : Job → List Bool → List Bool
  with_job job table = if makes m job then with_values true (filter may_bear (selection catalog job.choice)) table else table

  abbrev pub with_jobs : List Job → List Bool → List Bool
  with_jobs [] table = table
  with_jobs (job ∷ jobs) table = with_jobs jobs (with_job job table)

module _ (catalog : Catalog) (jobs : List Job) where
  -- who bears a mark
  abbrev pub bears : Mark → ℕ → Bool
  bears mark.Update = job_selects_installed catalog jobs (acts Update)
  bears mark.Dup = job_selects_installed catalog jobs (acts Distupgrade)
  bears mark.Verify = job_selects_installed catalog jobs (acts Verify)
  bears mark.Multiversion = job_selects catalog jobs (acts Multiversion)
  bears mark.AllowUninstall = job_selects_installed catalog jobs (acts AllowUninstall)
  bears mark.Erased = job_selects catalog jobs (acts Erase)
  bears mark.Asked = job_selects catalog jobs (acts Install)
  bears mark.UserInstalled = job_selects_installed catalog jobs (acts UserInstalled)
  bears mark.GivenUp = is_given_up catalog jobs

-- the favour that a job gives
abbrev pub favour_given : Action → Option ℤ
favour_given Favor = Some (pos 1)
favour_given Disfavor = Some (negsuc 0)
favour_given _ = None

module _ (catalog : Catalog) where
  -- the table of favour after one job, and after these jobs in order
  abbrev pub with_favour : Job → List ℤ → List ℤ
  with_favour job table = option_map_or (λ favour. with_values favour (selection catalog job.choice) table) (favour_given job.action) table

  abbrev pub with_favours : List Job → List ℤ → List ℤ
  with_favours [] table = table
  with_favours (job ∷ jobs) table = with_favours jobs (with_favour job table)
