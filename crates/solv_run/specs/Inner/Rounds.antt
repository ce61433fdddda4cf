-- The rounds that were begun, on the way. Inner contracts alone speak of it.
use Rattle.std.specs.Prelude.{ℕ, ◌-◌, ◌≤◌, ◌≡◌, ◌&&◌, Bool, true, false, List, [], ◌∷◌, ◌++◌, codes, flat_map, length}
use Rattle.std.specs.List.{list_all, zip}
use Rattle.solv_io.specs.Lines.{ended_lines}
use Rattle.solv_pool.specs.declared.tasks.Task.{Task}
use Rattle.solv_core.specs.declared.ledger.Ledger.{Ledger}
use Rattle.solv_answers.specs.Answers.{is_spent}
use Rattle.solv_answers.specs.declared.answers.Answer.{Answer}
use Rattle.solv_answers.specs.declared.answers.Answered.{Answered}
use Rattle.solv_script.specs.Rounds.{Turn}
use Rattle.solv_words.specs.declared.command_line.Command.{Command}
use Rattle.solv_words.specs.declared.command_line.Output.{Output}
use Rattle.solv_words.specs.declared.command_line.Output.TheVariants as output
use Rattle.solv_run.specs.Rounds.{AreAnswers, IsGoodAnswer, some_spent}
use Rattle.solv_run.specs.Inner.Texts.{is_as_wanted}
use Rattle.solv_run.specs.Texts.{are_as_wanted, round_lines, rounds_lines}
use Rattle.solv_run.specs.declared.rounds.Begun.{Begun}

-- are lines asked for?
abbrev pub prints_lines : Output → Bool
prints_lines output.Lines = true
prints_lines o = false

-- the lines of a round after another
abbrev pub next_lines : Bool → Turn → Answer → List (List ℕ)
next_lines shows turn answer = codes "nextjob" ∷ round_lines shows turn answer

-- the lines of rounds after another
abbrev pub later_lines : Command → List Turn → List Answer → List (List ℕ)
later_lines command turns answers = flat_map (λ x. next_lines command.shows x.0 x.1) (zip turns answers)

-- what is printed of a round was taken in
pub record HasPrinted (shows : Bool) (turn : Turn) (answer : Answer) (old new : Begun) : Type 0 where
  pub text : new.text.items ≡ old.text.items ++ ended_lines (round_lines shows turn answer)
  pub as_wanted : new.as_wanted ≡ (old.as_wanted && is_as_wanted turn answer)
  pub reached : new.reached ≡ old.reached
  pub left : new.left ≡ old.left

-- an answer was taken in, which is spent or left what it used
pub record HasTaken (answered : Answered) (old new : Begun) : Type 0 where
  pub answers : new.reached.answers ≡ old.reached.answers ++ answered.answer ∷ []
  pub ledgers : new.reached.ledgers ≡ old.reached.ledgers ++ answered.ledger ∷ []
  pub text : new.text ≡ old.text
  pub as_wanted : new.as_wanted ≡ old.as_wanted
  pub spent : new.spent ≡ is_spent answered.answer
  pub left : length answered.ledger.entries ≤ old.left → new.left ≡ old.left - length answered.ledger.entries

-- the line before a later round was taken in, where lines are asked for
pub record HasNext (command : Command) (old new : Begun) : Type 0 where
  pub text : prints_lines command.output ≡ true → new.text.items ≡ old.text.items ++ codes "nextjob\n"
  pub as_wanted : new.as_wanted ≡ old.as_wanted
  pub reached : new.reached ≡ old.reached
  pub left : new.left ≡ old.left

-- One round more was begun, with these lines before its own. What is printed is said where lines are asked for.
pub record IsOneMore (command : Command) (before : List (List ℕ)) (turn : Turn) (old new : Begun) : Type 0 where
  pub answer : Answer
  pub ledger : Ledger
  pub good : IsGoodAnswer turn.task old.left answer ledger
  pub answers : new.reached.answers ≡ old.reached.answers ++ answer ∷ []
  pub ledgers : new.reached.ledgers ≡ old.reached.ledgers ++ ledger ∷ []
  pub text : prints_lines command.output ≡ true → new.text.items ≡ old.text.items ++ ended_lines (before ++ round_lines command.shows turn answer)
  pub as_wanted : prints_lines command.output ≡ true → new.as_wanted ≡ (old.as_wanted && is_as_wanted turn answer)
  pub spent : new.spent ≡ is_spent answer
  pub left : is_spent answer ≡ false → new.left ≡ old.left - length ledger.entries

-- One round more after others: where the budget is spent all is as before, and else it was begun, with the line before a later round.
pub record GoesOn (command : Command) (turn : Turn) (old new : Begun) : Type 0 where
  pub spent : old.spent ≡ true → new ≡ old
  pub one_more : old.spent ≡ false → IsOneMore command (codes "nextjob" ∷ []) turn old new

-- What was begun, and what is left of it: however the rounds that are left are answered, all are answered so. Where the budget is spent, none is left.
pub record HasBegun (command : Command) (tasks : List Task) (turns : List Turn) (later_tasks : List Task) (later_turns : List Turn) (begun : Begun) : Type 0 where
  pub unspent : begun.spent ≡ false → (answers : List Answer) (ledgers : List Ledger) → AreAnswers begun.left later_tasks answers ledgers
      → AreAnswers command.budget tasks (begun.reached.answers ++ answers) (begun.reached.ledgers ++ ledgers)
  pub ended_there : begun.spent ≡ true → AreAnswers command.budget tasks begun.reached.answers begun.reached.ledgers
  pub text : prints_lines command.output ≡ true → (answers : List Answer) → begun.text.items ++ ended_lines (later_lines command later_turns answers) ≡ ended_lines (rounds_lines command.shows turns (begun.reached.answers ++ answers))
  pub as_wanted : prints_lines command.output ≡ true → (answers : List Answer) → (begun.as_wanted && are_as_wanted later_turns answers) ≡ are_as_wanted turns (begun.reached.answers ++ answers)
  pub spent : begun.spent ≡ some_spent begun.reached.answers

-- All that are begun: they are answers to the rounds of a script, and what is printed of them is put together.
pub record AreAll (command : Command) (tasks : List Task) (turns : List Turn) (begun : Begun) : Type 0 where
  pub are : AreAnswers command.budget tasks begun.reached.answers begun.reached.ledgers
  pub text : prints_lines command.output ≡ true → begun.text.items ≡ ended_lines (rounds_lines command.shows turns begun.reached.answers)
  pub as_wanted : prints_lines command.output ≡ true → begun.as_wanted ≡ are_as_wanted turns begun.reached.answers
  pub spent : begun.spent ≡ some_spent begun.reached.answers
