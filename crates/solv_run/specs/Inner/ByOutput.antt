-- What is due for a script by what is asked for, and for the task of a seed. Inner contracts alone speak of it.
use Rattle.std.specs.Prelude.{ℕ, ◌≡◌, Bool, true, false, ◌&&◌, List, [], ◌∷◌, Some, None, if◌then◌else◌}
use Rattle.std.specs.List.{list_all}
use Rattle.solv_io.specs.declared.status.Status.{Status}
use Rattle.solv_io.specs.declared.status.Status.TheVariants as status
use Rattle.solv_pool.specs.Prelude.{catalog_of, hard_rules}
use Rattle.solv_pool.specs.declared.tasks.Task.{Task}
use Rattle.solv_rules.specs.Books.{first_fault}
use Rattle.solv_rules.specs.declared.fault.BookFault.{BookFault}
use Rattle.solv_script.specs.Reads.{written_script}
use Rattle.solv_script.specs.Rounds.{tasks, turns}
use Rattle.solv_script.specs.declared.scripts.EvrCheck.{EvrCheck}
use Rattle.solv_script.specs.declared.scripts.Script.{Script}
use Rattle.solv_answers.specs.Answers.{first_limit}
use Rattle.solv_answers.specs.declared.answers.Answer.{Answer}
use Rattle.solv_core.specs.declared.ledger.Ledger.{Ledger}
use Rattle.solv_words.specs.declared.command_line.Command.{Command}
use Rattle.solv_words.specs.declared.command_line.Output.{Output}
use Rattle.solv_words.specs.declared.command_line.Output.TheVariants as output
use Rattle.solv_writing.specs.ScriptTexts.{text_of_script}
use Rattle.solv_said.specs.Dues.{limit_due}
use Rattle.solv_said.specs.declared.dues.Due.{Due}
use Rattle.solv_run.specs.Cases.{nothing_reached}
use Rattle.solv_run.specs.Checks.{is_true}
use Rattle.solv_run.specs.Dues.{grown_line, program, spent_line, status_of}
use Rattle.solv_run.specs.Proofs.{HasProofs, printed_proofs}
use Rattle.solv_run.specs.Rounds.{AreAnswers, IsGoodAnswer, some_spent}
use Rattle.solv_run.specs.Texts.{are_as_wanted, printed}
use Rattle.solv_run.specs.declared.reports.Reached.{Reached}

-- all EVRs compare as the script says
abbrev pub are_true : List EvrCheck → Bool
are_true checks = list_all is_true checks

-- the line on `err`: where the budget is spent there is one, and else none
abbrev pub spent_line_where : Bool → ℕ → List ℕ
spent_line_where spent budget = if spent then spent_line budget else []

-- the line on `err` for answers
abbrev pub spent_line_of : ℕ → List Answer → List ℕ
spent_line_of budget answers = spent_line_where (some_spent answers) budget

-- the status of answers of which no line is compared
abbrev pub plain_status : List Answer → Status
plain_status answers = status_of (some_spent answers) true

-- the status of the answers to a script, where all comparisons have to be true, and the lines of each round as it expects
abbrev pub answers_status : Script → List Answer → Status
answers_status script answers = status_of (some_spent answers) (are_true script.checks && are_as_wanted (turns script) answers)

-- what is due for the answers to a script
abbrev pub answers_due : Command → Script → List Answer → Due
answers_due command script answers = record { status = answers_status script answers; out = printed command.shows script answers; err = spent_line_of command.budget answers }

-- and where proofs are asked for: those of their problems, and nothing else; no line is compared
abbrev pub proofs_due : ℕ → List Answer → Due
proofs_due budget answers = record { status = plain_status answers; out = printed_proofs answers; err = spent_line_of budget answers }

-- what is due where the script itself is asked for: its text, and nothing is answered or compared
abbrev pub written_due : Script → Due
written_due script = record { status = status.Done; out = text_of_script (written_script script); err = [] }

-- what is due for an answer to the task of a seed
abbrev pub grown_due : ℕ → ℕ → Task → Answer → Due
grown_due budget seed task answer = record { status = plain_status (answer ∷ []); out = grown_line seed task answer; err = spent_line_of budget (answer ∷ []) }

-- one answer, and what was learnt for it
abbrev pub one_reached : Answer → Ledger → Reached
one_reached answer ledger = record { answers = answer ∷ []; ledgers = ledger ∷ [] }

-- are answers asked for, as lines or as proofs, and not the script itself?
abbrev pub asks_answers : Output → Bool
asks_answers output.Script = false
asks_answers o = true

-- What is due for a script that was read, and what is reported of its rounds: nothing, where the clauses of one pass a limit, the first of which is reported;
-- and else their answers, within the budget of the words. Where the words ask for proofs, these are due in place of lines. Where they ask for the script
-- itself, its text is due, and no round is looked at.
pub data IsDueForScript (command : Command) (script : Script) : Due → Reached → Type 0 where
  passes : (fault : BookFault) → asks_answers command.output ≡ true → first_limit (tasks script) ≡ Some fault → IsDueForScript command script (limit_due program script.task fault) nothing_reached
  answered : (reached : Reached) → command.output ≡ output.Lines → first_limit (tasks script) ≡ None → AreAnswers command.budget (tasks script) reached.answers reached.ledgers
      → IsDueForScript command script (answers_due command script reached.answers) reached
  proved : (reached : Reached) → command.output ≡ output.Proofs → first_limit (tasks script) ≡ None → AreAnswers command.budget (tasks script) reached.answers reached.ledgers
      → HasProofs reached.answers → IsDueForScript command script (proofs_due command.budget reached.answers) reached
  written : command.output ≡ output.Script → IsDueForScript command script (written_due script) nothing_reached

-- what is due for the task of a seed: the same of one round, and of its answer one line
pub data IsDueForGrown (budget seed : ℕ) (task : Task) : Due → Reached → Type 0 where
  grown_passes : (fault : BookFault) → first_fault (catalog_of task) 0 (hard_rules task) ≡ Some fault → IsDueForGrown budget seed task (limit_due program task fault) nothing_reached
  grown_answered : (answer : Answer) (ledger : Ledger) → first_fault (catalog_of task) 0 (hard_rules task) ≡ None → IsGoodAnswer task budget answer ledger
      → IsDueForGrown budget seed task (grown_due budget seed task answer) (one_reached answer ledger)
