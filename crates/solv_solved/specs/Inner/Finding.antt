-- What is found of a task before what is held is changed. Contracts between functions alone speak of it.
use Rattle.std.specs.Prelude.{ℕ, ◌≡◌, ⊤, true, List, Option, Some, None}
use Rattle.solv_pool.specs.Prelude.{catalog_of, hard_rules}
use Rattle.solv_pool.specs.declared.tasks.Task.{Task}
use Rattle.solv_prov.specs.Index.{Index, IsIndexOf}
use Rattle.solv_rules.specs.Books.{first_fault, read_rules}
use Rattle.solv_rules.specs.declared.fault.BookFault.{BookFault}
use Rattle.solv_answers.specs.Answers.{IsAnswered, IsTransactionUnlessChoicesClash}
use Rattle.solv_said.specs.Dues.{limit_line}
use Rattle.solv_solved.specs.Building.{script_of}
use Rattle.solv_solved.specs.Inner.Proving.{are_proved}
use Rattle.solv_solved.specs.Proofs.{problems_in}
use Rattle.solv_solved.specs.Solvings.{IsSolved, program}
use Rattle.solv_solved.specs.declared.anew.Again.{Again}
use Rattle.solv_solved.specs.declared.anew.Again.TheVariants as ended
use Rattle.solv_solved.specs.declared.building.Found.{Found}
use Rattle.solv_solved.specs.declared.building.Found.TheVariants as which
use Rattle.solv_solved.specs.declared.opened.Opened.{Opened}
use Rattle.solv_solved.specs.declared.outcomes.Held.{Held}
use Rattle.solv_solved.specs.declared.outcomes.Held.TheVariants.{Answered, Refused, Open}
use Rattle.solv_solved.specs.declared.solving.WithRules.{WithRules}
use Rattle.solv_solved.specs.declared.with_answer.Solved.{Solved}

-- an answer to a task within the budget, with the index and the hard rules of the task, whose clauses pass no limit
pub record IsFoundAnswer (budget : ℕ) (task : Task) (index : Index) (given : WithRules) : Type 0 where
  pub of_task : IsIndexOf index (catalog_of task)
  pub good : IsAnswered task budget given.answered.answer given.answered.ledger
  pub direct : IsTransactionUnlessChoicesClash task given.answered.answer
  pub rules : read_rules given.rules ≡ hard_rules task
  pub proved : are_proved task (problems_in given.answered.answer) ≡ true
  pub fits : first_fault (catalog_of task) 0 (hard_rules task) ≡ None

-- the line on the first limit that the clauses of a task pass
pub record IsFoundLimit (task : Task) (said : List ℕ) : Type 0 where
  pub limit : BookFault
  pub passed : first_fault (catalog_of task) 0 (hard_rules task) ≡ Some limit
  pub told : said ≡ limit_line program task limit

-- one of the two
abbrev pub IsFound : ℕ → Task → Found → Type 0
IsFound budget task (which.Answer index given) = IsFoundAnswer budget task index given
IsFound budget task (which.Limit said) = IsFoundLimit task said

-- so it is of the task that is held; a refusal has none
abbrev pub IsFoundIn : ℕ → Held → Option Found → Type 0
IsFoundIn budget (Answered solved) (Some found) = IsFound budget solved.script.task found
IsFoundIn budget (Open opened) (Some found) = IsFound budget opened.draft.task found
IsFoundIn budget (Refused due) None = ⊤
IsFoundIn budget held found = ⊥

-- a task is held with its answer; or without one, with the line on the limit that its clauses pass
pub data IsSolveOf (budget : ℕ) (task : Task) : Held → Again → Type 0 where
  answer_of : (new : Solved) → IsSolved budget (script_of task) new → IsSolveOf budget task (Answered new) ended.Answered
  limit_of : (new : Opened) (limit : BookFault) → first_fault (catalog_of task) 0 (hard_rules task) ≡ Some limit → new.draft.task ≡ task → new.said ≡ limit_line program task limit → IsSolveOf budget task (Open new) ended.Passes
