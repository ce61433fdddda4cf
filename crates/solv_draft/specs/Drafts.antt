-- What calls give to a task: what the lines of a script give that say the same, or why nothing is given.
use Rattle.std.specs.Prelude.{ℕ, ℤ, ◌-◌, ◌==◌, ◌≡◌, ◌||◌, not, Bool, List, [], ◌∷◌, ◌++◌, true, length, slice_set, nat_le, nat_lt, Option, Some, None, Result, Ok, Err, if◌then◌else◌}
use Rattle.std.specs.List.{list_all}
use Rattle.solv_base.specs.Pool.{Grows}
use Rattle.solv_io.specs.Lines.{numbered_lines}
use Rattle.solv_deps.specs.Entering.{text_entered}
use Rattle.solv_tags.specs.Testtags.{testtags}
use Rattle.solv_pool.specs.TaskBelonging.{is_pack}
use Rattle.solv_pool.specs.Written.{written_job, written_task}
use Rattle.solv_pool.specs.declared.tasks.Task.{Task}
use Rattle.solv_pool.specs.declared.universes.Arch.{Arch}
use Rattle.solv_pool.specs.declared.universes.Arch.TheVariants.{X86_64, I686, Aarch64}
use Rattle.solv_commands.specs.Commands.{by_name, by_provides}
use Rattle.solv_commands.specs.declared.causes.Cause.{Cause}
use Rattle.solv_script.specs.Grammar.{Bad, repository_given}
use Rattle.solv_script.specs.Rows.{or_text_cause, with_repo, with_namespace, job_row}
use Rattle.solv_script.specs.States.{State, no_line}
use Rattle.solv_draft.specs.JobRows.{action_of, flags_of, is_row, job_of}
use Rattle.solv_draft.specs.declared.draft_fault.DraftFault.{DraftFault}
use Rattle.solv_draft.specs.declared.draft_fault.DraftFault.TheVariants.{Refused, Misused}
use Rattle.solv_draft.specs.declared.flag_row.FlagRow.{FlagRow}
use Rattle.solv_draft.specs.declared.job_row.JobRow.{JobRow}

-- a task, as lines give it that say the same
unfoldable pub drawn : Task → State
drawn task = record no_line { held = task.pool; task = written_task task }

-- a task is as it was; its pool may hold texts and relations more
pub record IsAsBefore (old new : Task) : Type 0 where
  pub task : written_task new ≡ written_task old
  pub grows : Grows old.pool new.pool

-- what one line gives, and what the lines of a file give
abbrev pub of_line : Result State Cause → Result State DraftFault
of_line (Ok s) = Ok s
of_line (Err cause) = Err (Refused 1 cause)

abbrev pub of_file : Result State Bad → Result State DraftFault
of_file (Ok s) = Ok s
of_file (Err bad) = Err (Refused bad.line bad.cause)

-- what follows where a number names something
abbrev pub where_named : Bool → Result State DraftFault → Result State DraftFault
where_named named given = if named then given else Err Misused

-- a repository after the others
abbrev pub repo_given : List ℕ → ℤ → State → Result State DraftFault
repo_given name priority s = of_line (with_repo s name priority)

-- the packages of a repository after the others
abbrev pub packages_given : ℕ → List ℕ → State → Result State DraftFault
packages_given repo bytes s =
    where_named (nat_lt repo (length s.task.repos)) (of_file (repository_given s [] (testtags s.held (length s.task.packages) repo (numbered_lines bytes))))

-- the architecture of a number
abbrev pub arch_of : ℕ → Option Arch
arch_of number =
    if number == 0 then Some X86_64
    else (if number == 1 then Some I686
    else (if number == 2 then Some Aarch64
    else None))

-- the system, and the repository that is installed, if there is one
abbrev pub system_of : Option Arch → Option ℕ → State → Result State DraftFault
system_of None installed s = Err Misused
system_of (Some arch) installed s = Ok (record s { task = record s.task { arch = Some arch; installed = installed } })

abbrev pub installed_of : Bool → ℕ → Option ℕ
installed_of has installed = if has then Some installed else None

abbrev pub system_given : ℕ → Bool → ℕ → State → Result State DraftFault
system_given number has installed s =
    where_named (not has || nat_lt installed (length s.task.repos)) (system_of (arch_of number) (installed_of has installed) s)

-- a package that is disabled
abbrev pub disabled_given : ℕ → State → Result State DraftFault
disabled_given pack s =
    where_named (is_pack (length s.task.packages) pack) (Ok (record s { task = record s.task { disabled = slice_set s.task.disabled (pack - 1) true } }))

-- packages of a namespace besides those that it has
abbrev pub namespace_given : List ℕ → List ℕ → State → Result State DraftFault
namespace_given name packs s =
    where_named (list_all (λ p. nat_le p (length s.task.packages)) packs)
    (of_line (or_text_cause (text_entered name s.held)
    (λ e. Ok (record s { held = e.held; task = record s.task { namespaces = with_namespace name packs s.task.namespaces } }))))

-- flags in place of those that are there
abbrev pub flags_given : FlagRow → State → Result State DraftFault
flags_given row s = Ok (record s { task = record s.task { flags = flags_of row } })

-- a job after the others: by numbers, or by what has the name of a dependency, or provides it
abbrev pub job_given : JobRow → State → Result State DraftFault
job_given row s =
    where_named (is_row (length s.task.packages) row) (Ok (record s { task = record s.task { jobs = s.task.jobs ++ written_job s.held (job_of row) ∷ [] } }))

abbrev pub job_by_given : Bool → List ℕ → JobRow → State → Result State DraftFault
job_by_given provides dep row s =
    where_named (nat_lt row.action 12)
    (of_line (job_row s (action_of row.action) (if provides then by_provides (dep ∷ []) else by_name (dep ∷ [])) (record { forcebest = row.forcebest; cleandeps = row.cleandeps }) row.text.now))

-- no jobs
abbrev pub no_jobs_given : State → Result State DraftFault
no_jobs_given s = Ok (record s { task = record s.task { jobs = [] } })
