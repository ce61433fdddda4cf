-- What is answered where the rules of some packages are left out, by the numbers of the rules that are made. Inner contracts alone speak of it.
use Rattle.std.specs.Prelude.{◌≡◌, ◌==◌, ⊤, ◌+◌, ◌≤◌, ◌<◌, ℕ, Bool, true, List, [], flat_map, length, map, replicate, slice_get, Some}
use Rattle.solv_pool.specs.Prelude.{catalog_of, marks_of, rule_clauses, HardRule}
use Rattle.solv_pool.specs.declared.tasks.Task.{Task}
use Rattle.solv_rules.specs.Books.{owners_from}
use Rattle.solv_trail.specs.Asked.{is_enabled}
use Rattle.solv_core.specs.Cores.{CoreOf}
use Rattle.solv_core.specs.Ledgers.{IsGoodLedger}
use Rattle.solv_core.specs.declared.ledger.Ledger.{Ledger}
use Rattle.solv_core.specs.declared.ledger.Run.{Run}
use Rattle.solv_leaving.specs.Inner.Leaving.{leaving}
use Rattle.solv_over.specs.Inner.Places.{PlacesOf, clause_place, problem_at, rule_place}
use Rattle.solv_questions.specs.Questions.{Request, request_of, rules_of, asks}
use Rattle.solv_remedy.specs.Remedies.{IsGoodList, droppable_rules, is_fixed_at, most_runs}
use Rattle.solv_answers.specs.Answers.{HasNoSet, IsTransaction, is_spent}
use Rattle.solv_answers.specs.declared.answers.Answer.{Answer}
use Rattle.solv_answers.specs.declared.answers.Answer.TheVariants as answer

module _ (task : Task) (left : List Bool) where
  -- the task is asked so
  abbrev pub made_request : Request
  made_request = request_of task (leaving (marks_of task) left)

  -- its rules are the hard rules but the requirements of these packages
  abbrev pub made_rules : List HardRule
  made_rules = rules_of made_request

  -- each of them is enabled
  abbrev pub all_made : List Bool
  all_made = replicate (length made_rules) true

  -- the core over their clauses, rule by rule
  abbrev pub made_core : CoreOf
  made_core = record { clauses = flat_map (rule_clauses (catalog_of task)) made_rules; owners = owners_from (catalog_of task) 0 made_rules; packages = length task.universe.packages }

  -- the runs over them, as those over all hard rules are
  pub record AreMadeRuns (runs : List Run) : Type 0 where
    pub first : slice_get runs 0 ≡ Some (record { enabled = all_made; kept = [] })
    pub fixed_on : (n : ℕ) (run : Run) → slice_get runs n ≡ Some run → (k : ℕ) → is_fixed_at made_request k ≡ true → is_enabled run.enabled k ≡ true
    pub few : length runs ≤ most_runs (droppable_rules made_rules) + 1
    pub later : 1 < length runs → HasNoSet task

  -- and what was learnt in them
  pub record IsMadeLedger (budget : ℕ) (given : Answer) (ledger : Ledger) : Type 0 where
    pub good : IsGoodLedger made_core.clauses made_core.owners (length task.universe.packages) (asks made_request) ledger
    pub of_budget : ledger.budget ≡ budget
    pub runs : AreMadeRuns ledger.runs
    pub spent : is_spent given ≡ (length ledger.entries == budget + 1)

  -- a transaction, or problems among them
  abbrev pub IsMadeAnswer : Answer → Type 0
  IsMadeAnswer (answer.Transaction trail set made ordered) = IsTransaction task trail set made ordered
  IsMadeAnswer (answer.Problems problems) = IsGoodList made_request made_core problems × HasNoSet task
  IsMadeAnswer answer.Spent = ⊤

  -- an answer by them within a budget, and what was learnt for it
  pub record IsAnsweredMade (budget : ℕ) (given : Answer) (ledger : Ledger) : Type 0 where
    pub is : IsMadeAnswer given
    pub learnt : IsMadeLedger budget given ledger

-- an answer with the numbers of its rules, and of their clauses, at these places
abbrev pub answer_at : PlacesOf → Answer → Answer
answer_at places (answer.Problems problems) = answer.Problems (map (problem_at (clause_place places) (rule_place places)) problems)
answer_at places given = given
