-- What a command is run on, and what is due for its answers: a status, and the texts for both sinks.
use Rattle.std.specs.Prelude.{ℕ, Bool, true, ◌&&◌, List, [], ◌∷◌, ◌++◌, codes, length, if◌then◌else◌}
use Rattle.std.specs.Fmt.{decimal}
use Rattle.std.specs.List.{list_all}
use Rattle.solv_io.specs.declared.status.Status.{Status}
use Rattle.solv_io.specs.declared.status.Status.TheVariants as status
use Rattle.solv_pool.specs.HardRules.{hard_rules}
use Rattle.solv_pool.specs.declared.tasks.Task.{Task}
use Rattle.solv_script.specs.Reads.{written_script}
use Rattle.solv_script.specs.Rounds.{tasks, turns}
use Rattle.solv_script.specs.declared.scripts.Script.{Script}
use Rattle.solv_answers.specs.declared.answers.Answer.{Answer}
use Rattle.solv_answers.specs.declared.answers.Answer.TheVariants.{Transaction, Problems, Spent}
use Rattle.solv_writing.specs.ScriptTexts.{text_of_script}
use Rattle.solv_words.specs.declared.command_line.Command.{Command}
use Rattle.solv_words.specs.declared.command_line.Output.TheVariants as output
use Rattle.solv_run.specs.Checks.{is_true}
use Rattle.solv_run.specs.Proofs.{printed_proofs}
use Rattle.solv_run.specs.Rounds.{some_spent}
use Rattle.solv_run.specs.Texts.{are_as_wanted, printed}
use Rattle.solv_said.specs.declared.dues.Due.{Due}

-- the name that stands before the lines on `err`
abbrev pub program : List ℕ
program = codes "testsolv"

-- the form of the words
abbrev pub usage_line : List ℕ
usage_line = codes "usage: testsolv [-r] [--budget N] [--proof] [--write] [--grow SEED] FILE\n"

-- a budget of learnt rules that is spent
abbrev pub spent_line : ℕ → List ℕ
spent_line budget = codes "testsolv: budget of " ++ (decimal budget ++ codes " learnt rules spent\n")

-- the status: whether the budget is spent, and else whether all is as it is wanted
abbrev pub status_of : Bool → Bool → Status
status_of spent as_wanted = if spent then status.Spent else (if as_wanted then status.Done else status.Differs)

-- an answer in few words
abbrev pub answer_words : Answer → List ℕ
answer_words (Transaction trail set made ordered) = codes "transaction of " ++ (decimal (length made) ++ codes " changes")
answer_words (Problems problems) = decimal (length problems) ++ codes " problems"
answer_words Spent = codes "spent"

-- the line on the task of a seed: its packages besides the system, its hard rules, and its answer
abbrev pub grown_line : ℕ → Task → Answer → List ℕ
grown_line seed task answer = codes "grow " ++ (decimal seed ++ (codes ": " ++ (decimal (length task.universe.packages) ++ (codes " packages, " ++ (decimal (length (hard_rules task)) ++ (codes " rules, " ++ (answer_words answer ++ codes "\n")))))))

-- what a command is run on: a script that was read, or the task of the large script of a seed
pub data Input : Type 0 where
  of_script : Script → Input
  of_seed : ℕ → Task → Input

module _ (command : Command) where
  -- the tasks that are answered: one for each round, and none where the script itself is asked for
  abbrev pub tasks_of : Input → List Task
  tasks_of (of_script script) = elim command.output [ output.Script ↦ [] | o ↦ tasks script ]
  tasks_of (of_seed seed task) = task ∷ []

  -- what is printed: lines, or the proofs of problems and nothing else, or the script itself; and of a seed one line
  abbrev pub printed_of : Input → List Answer → List ℕ
  printed_of (of_script script) answers = elim command.output [
    | output.Lines ↦ printed command.shows script answers
    | output.Proofs ↦ printed_proofs answers
    | output.Script ↦ text_of_script (written_script script)
  ]
  printed_of (of_seed seed task) answers = elim answers [ [] ↦ [] | answer ∷ others ↦ grown_line seed task answer ]

  -- all is as it is wanted: where lines of a script are asked for, its comparisons are true, and the lines of each round are as it expects; else nothing is compared
  abbrev pub agrees : Input → List Answer → Bool
  agrees (of_script script) answers = elim command.output [ output.Lines ↦ list_all is_true script.checks && are_as_wanted (turns script) answers | o ↦ true ]
  agrees (of_seed seed task) answers = true

  -- what is due for answers: on `err` there is one line where the budget is spent, and else none
  abbrev pub due_for : Input → List Answer → Due
  due_for input answers =
      record { status = status_of (some_spent answers) (agrees input answers); out = printed_of input answers; err = if some_spent answers then spent_line command.budget else [] }
