-- What is due in each case of a run.
use Rattle.std.specs.Prelude.{ℕ, ◌≡◌, List, [], ◌∷◌, Option, Some, None}
use Rattle.solv_rules.specs.declared.fault.BookFault.{BookFault}
use Rattle.solv_script.specs.FileRuns.{FilesRun, AskedBesides}
use Rattle.solv_script.specs.GrownTasks.{IsGrown}
use Rattle.solv_script.specs.declared.scripts.Script.{Script}
use Rattle.solv_pool.specs.declared.tasks.Task.{Task}
use Rattle.solv_answers.specs.Answers.{first_limit}
use Rattle.solv_answers.specs.declared.answers.Answer.{Answer}
use Rattle.solv_words.specs.declared.command_line.Command.{Command}
use Rattle.solv_words.specs.declared.command_line.Output.TheVariants as output
use Rattle.solv_words.specs.declared.command_line.Source.TheVariants.{File, Seed}
use Rattle.solv_io.specs.declared.status.Status.TheVariants as status
use Rattle.solv_said.specs.Dues.{limit_due, line_due}
use Rattle.solv_said.specs.Fetches.{IsUnreadDue, WasFetched}
use Rattle.solv_said.specs.Runs.{SinkRun, WroteAll, WrotePart, IsSaid}
use Rattle.solv_said.specs.declared.dues.Due.{Due}
use Rattle.solv_run.specs.Dues.{Input, due_for, of_script, of_seed, program, tasks_of, usage_line}
use Rattle.solv_run.specs.Proofs.{HasProofs}
use Rattle.solv_run.specs.Rounds.{AreAnswers}
use Rattle.solv_run.specs.declared.reports.Reached.{Reached}
use Rattle.solv_run.specs.declared.reports.Report.{Report}

-- no answer, and nothing learnt
abbrev pub nothing_reached : Reached
nothing_reached = record { answers = []; ledgers = [] }

module _ (command : Command) (input : Input) where
  -- the problems of a script have proofs where these are asked for
  abbrev pub AreProved : List Answer → Type 0
  AreProved answers = (script : Script) → input ≡ of_script script → command.output ≡ output.Proofs → HasProofs answers

  -- What is due for an input, and what is reported of it: nothing, where the clauses of a task pass a limit, the first of which is reported, by the packages that
  -- all tasks share; and else an answer to each task, within the budget of the words, with what is due for these answers.
  pub data IsDueFor : Due → Reached → Type 0 where
    passes_limit : (task : Task) (later : List Task) (fault : BookFault) → tasks_of command input ≡ task ∷ later → first_limit (tasks_of command input) ≡ Some fault → IsDueFor (limit_due program task fault) nothing_reached
    has_answers : (reached : Reached) → first_limit (tasks_of command input) ≡ None → AreAnswers command.budget (tasks_of command input) reached.answers reached.ledgers
        → AreProved reached.answers → IsDueFor (due_for command input reached.answers) reached

-- the file that the words name
abbrev pub file_in : Option Command → Option (List ℕ)
file_in None = None
file_in (Some command) = elim command.source [ File name ↦ Some name | Seed seed ↦ None ]

-- what is due by the words
module _ (form : Option Command) (files : FilesRun) where
  -- the words give this command, and its input is a script, which was read from the file that they name; or the task of their seed, and no file is asked for
  pub data IsInput (command : Command) : Input → Type 0 where
    was_read : (script : Script) → form ≡ Some command → WasFetched (file_in form) files script → IsInput command (of_script script)
    was_grown : (seed : ℕ) (task : Task) → form ≡ Some command → command.source ≡ Seed seed → AskedBesides files [] → files.faults_after ≡ files.faults_before → IsGrown seed task
        → IsInput command (of_seed seed task)

  -- What is due, and which answers are reported: the words are not of the form, and no file is asked for; or the script cannot be
  -- read, or a file that it names, or its first bad line is refused; or the words have an input.
  pub data IsDueRun : Due → Reached → Type 0 where
    no_command : form ≡ None → AskedBesides files [] → files.faults_after ≡ files.faults_before → IsDueRun (line_due status.Usage usage_line) nothing_reached
    unread : (due : Due) → IsUnreadDue (file_in form) files program due → IsDueRun due nothing_reached
    had_input : (command : Command) (input : Input) (due : Due) (reached : Reached) → IsInput command input → IsDueFor command input due reached → IsDueRun due reached

  -- a run: what is due with the answers and ledgers that are reported is said
  pub record IsRun (report : Report) (out err : SinkRun) : Type 0 where
    pub due : Due
    pub is_due : IsDueRun due (record { answers = report.answers; ledgers = report.ledgers })
    pub said : IsSaid due report.status out err

  -- what may be written before a run ends for lack of memory: nothing, or a prefix of each text that is due, whatever answers were reached
  pub data HasWrittenPart (out err : SinkRun) : Type 0 where
    wrote_nothing : WroteAll out [] → WroteAll err [] → HasWrittenPart out err
    wrote_part : (due : Due) (reached : Reached) → IsDueRun due reached → WrotePart out due.out → WrotePart err due.err → HasWrittenPart out err
