-- How jobs mark packages. They leave none out.
use Rattle.std.specs.Prelude.{ℕ, ℤ, pos, negsuc, Bool, false, ◌||◌, List, [], ◌∷◌, map, fold, unwrap_or, slice_get, if◌then◌else◌}
use Rattle.solv_pool.specs.Catalog.{Catalog, catalog_of, packages}
use Rattle.solv_pool.specs.Selections.{selects}
use Rattle.solv_pool.specs.JobKinds.{acts, job_selects, job_selects_installed}
use Rattle.solv_pool.specs.Cleaning.{is_gone, cleaned}
use Rattle.solv_pool.specs.declared.tasks.Task.{Task}
use Rattle.solv_pool.specs.declared.jobs.Job.{Job}
use Rattle.solv_pool.specs.declared.job_marks.Marks.{Marks}
use Rattle.solv_pool.specs.declared.jobs.Action.{Action}
use Rattle.solv_pool.specs.declared.jobs.Action.TheVariants.{Update, Distupgrade, Verify, Multiversion, AllowUninstall, Favor, Disfavor}

-- the favour of a package after a job that selects it: 1 is favoured, -1 disfavoured
abbrev pub favour_after : Action → ℤ → ℤ
favour_after Favor before = pos 1
favour_after Disfavor before = negsuc 0
favour_after _ before = before

-- the mark of p
abbrev pub marked : List Bool → ℕ → Bool
marked marks p = unwrap_or (slice_get marks p) false

-- p is marked to move, for update or for a distribution upgrade
abbrev pub is_to_move : Marks → ℕ → Bool
is_to_move marks p = marked marks.update p || marked marks.dup p

module _ (catalog : Catalog) (jobs : List Job) where
  -- the last favor or disfavor job that selects p decides
  abbrev pub favour_of : ℕ → ℤ
  favour_of p = fold (λ before job. if selects catalog job.choice p then favour_after job.action before else before) (pos 0) jobs

  -- an entry for each package number, the system's being false
  abbrev pub mark_each : (ℕ → Bool) → List Bool
  mark_each test = false ∷ map test (packages catalog)

  -- update, distupgrade, verify and allowuninstall jobs mark installed packages; multiversion and erase jobs all that they select; what is cleaned is marked as erased, too
  abbrev pub marks_with_cleaned : Marks
  marks_with_cleaned = record {
    update = mark_each (job_selects_installed catalog jobs (acts Update));
    dup = mark_each (job_selects_installed catalog jobs (acts Distupgrade));
    verify = mark_each (job_selects_installed catalog jobs (acts Verify));
    multiversion = mark_each (job_selects catalog jobs (acts Multiversion));
    allow_uninstall = mark_each (job_selects_installed catalog jobs (acts AllowUninstall));
    erased = mark_each (is_gone catalog jobs (cleaned catalog jobs));
    favour = pos 0 ∷ map favour_of (packages catalog);
    left_out = [];
  }

-- the marks of a task
abbrev pub marks_of : Task → Marks
marks_of task = marks_with_cleaned (catalog_of task) task.jobs
