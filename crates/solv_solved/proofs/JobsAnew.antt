-- A task with other jobs.
use Rattle.std.proofs.Common.{◌≡◌, ℕ, Bool, true, false, None, List, [], ◌∷◌, length, map, refl, sym, subst}
use Rattle.std.specs.List.{list_all}
use Rattle.std.proofs.lemmas.Bool.{and_parts, and_from}
use Rattle.std.specs.Prelude.{nat_lt, if◌then◌else◌}
use Rattle.solv_pool.specs.Prelude.{Catalog, catalog_of, hard_rules, IsClosed, choice_fits}
use Rattle.solv_pool.specs.TaskForms.{HasForms, is_formed_choice}
use Rattle.solv_pool.specs.declared.jobs.Choice.TheVariants.{All, OneOf}
use Rattle.solv_pool.specs.declared.jobs.Job.{Job}
use Rattle.solv_pool.specs.declared.tasks.Task.{Task}
use Rattle.solv_rules.specs.Books.{IsDue, first_fault}
use Rattle.solv_rules.specs.declared.fault.BookFault.{BookFault}
use Rattle.solv_script.specs.declared.scripts.Script.{Script}
use Rattle.solv_answers.specs.Answers.{IsAnswered, IsTransactionUnlessChoicesClash}
use Rattle.solv_draft.proofs.Drawing.{selection_fits}
use Rattle.solv_solved.specs.Anew.{IsSame}
use Rattle.solv_draft.specs.JobRows.{are_rows, is_number_of, flags_of, is_row, job_of, with_rows}
use Rattle.solv_solved.specs.Solvings.{IsSolved}
use Rattle.solv_pool.specs.declared.tasks.Flags.{Flags}
use Rattle.solv_draft.specs.declared.flag_row.FlagRow.{FlagRow}
use Rattle.solv_draft.specs.declared.job_row.JobRow.{JobRow}
use Rattle.solv_solved.specs.declared.with_answer.Solved.{Solved}

-- a task and a script with these jobs
abbrev pub task_with : Task → Flags → List Job → Task
task_with task flags jobs = record task { flags = flags; jobs = jobs }

abbrev pub script_with : Script → Flags → List Job → Script
script_with script flags jobs = record script { task = task_with script.task flags jobs }

rows_fit : (nodes count : ℕ) (rows : List JobRow) → are_rows count rows ≡ true → list_all (λ (job : Job). choice_fits nodes count job.choice) (map job_of rows) ≡ true
rows_fit nodes count [] good = refl
rows_fit nodes count (row ∷ rows) good =
    let parts = and_parts (is_row count row) (are_rows count rows) good in
    let within = (and_parts (nat_lt row.action 12) (list_all (is_number_of count) row.packs.now) parts.0).1 in
    and_from (choice_fits nodes count (job_of row).choice) (list_all (λ (job : Job). choice_fits nodes count job.choice) (map job_of rows)) (selection_fits nodes count row.all row.packs.now within) (rows_fit nodes count rows parts.1)

choice_formed : (catalog : Catalog) (all : Bool) (packs : List ℕ) → is_formed_choice catalog (if all then All else OneOf packs) ≡ true
choice_formed catalog true packs = refl
choice_formed catalog false packs = refl

rows_formed : (catalog : Catalog) (rows : List JobRow) → list_all (λ (job : Job). is_formed_choice catalog job.choice) (map job_of rows) ≡ true
rows_formed catalog [] = refl
rows_formed catalog (row ∷ rows) =
    and_from (is_formed_choice catalog (job_of row).choice) (list_all (λ (job : Job). is_formed_choice catalog job.choice) (map job_of rows)) (choice_formed catalog row.all row.packs.now) (rows_formed catalog rows)

module _ (task : Task) (flags : Flags) (rows : List JobRow) (jobs : List Job) (is : jobs ≡ map job_of rows) where
  pub closed_anew : IsClosed task → are_rows (length task.universe.packages) rows ≡ true → IsClosed (task_with task flags jobs)
  closed_anew closed good = subst (λ (j : List Job). IsClosed (task_with task flags j)) (sym is)
      (record { universe = closed.universe; namespaces = closed.namespaces; jobs = rows_fit (length task.pool.nodes) (length task.universe.packages) rows good })

  pub forms_anew : HasForms task → HasForms (task_with task flags jobs)
  forms_anew forms = subst (λ (j : List Job). HasForms (task_with task flags j)) (sym is) (record { packages = forms.packages; jobs = rows_formed (catalog_of task) rows })

module _ (script : Script) (row : FlagRow) (rows : List JobRow) (flags : Flags) (jobs : List Job) (same_flags : flags ≡ flags_of row) (is : jobs ≡ map job_of rows) where
  -- what holds with the flags and jobs that are there holds with those that were given
  given : (P : Flags → List Job → Type 0) → P flags jobs → P (flags_of row) (map job_of rows)
  given P h = subst (λ (j : List Job). P (flags_of row) j) is (subst (λ (f : Flags). P f jobs) same_flags h)

  pub solved_anew : (budget : ℕ) (new : Solved) → new.script ≡ script_with script flags jobs → first_fault (catalog_of (task_with script.task flags jobs)) 0 (hard_rules (task_with script.task flags jobs)) ≡ None
      → IsAnswered (task_with script.task flags jobs) budget new.answer new.ledger → IsTransactionUnlessChoicesClash (task_with script.task flags jobs) new.answer → IsSolved budget (with_rows script row rows) new
  solved_anew budget new same fits good direct = given (λ f j. IsSolved budget (script_with script f j) new) (record { of_script = same; fits = fits; good = good; direct = direct })

  pub due_anew : (fault : BookFault) → IsDue (first_fault (catalog_of (task_with script.task flags jobs)) 0 (hard_rules (task_with script.task flags jobs))) fault
      → IsDue (first_fault (catalog_of (with_rows script row rows).task) 0 (hard_rules (with_rows script row rows).task)) fault
  due_anew fault due = given (λ f j. IsDue (first_fault (catalog_of (task_with script.task f j)) 0 (hard_rules (task_with script.task f j))) fault) due

-- what holds of a task holds with its flags and jobs put back
pub put_back : (P : Task → Type 0) (task : Task) (flags : Flags) (jobs : List Job) → flags ≡ task.flags → jobs ≡ task.jobs → P task → P (task_with task flags jobs)
put_back P task flags jobs same_flags same_jobs h = subst (λ (j : List Job). P (task_with task flags j)) (sym same_jobs) (subst (λ (f : Flags). P (task_with task f task.jobs)) (sym same_flags) h)

pub same_self : (solved : Solved) → IsSame solved solved
same_self solved = record { script = refl; prov = refl; rules = refl; answer = refl; ledger = refl }
