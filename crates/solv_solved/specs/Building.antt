-- What calls build, and the answer to it.
use Rattle.std.specs.Prelude.{ℕ, ◌≡◌, List, [], Option, Some, None, Result, Ok, Err}
use Rattle.solv_pool.specs.Catalog.{catalog_of}
use Rattle.solv_pool.specs.HardRules.{hard_rules}
use Rattle.solv_pool.specs.declared.tasks.Task.{Task}
use Rattle.solv_rules.specs.Books.{first_fault}
use Rattle.solv_rules.specs.declared.fault.BookFault.{BookFault}
use Rattle.solv_commands.specs.Causes.{cause_name}
use Rattle.solv_commands.specs.declared.causes.Cause.{Cause}
use Rattle.solv_script.specs.Reads.{default_kinds}
use Rattle.solv_script.specs.States.{State, no_line}
use Rattle.solv_script.specs.declared.scripts.Script.{Script}
use Rattle.solv_said.specs.Dues.{limit_line, line_at}
use Rattle.solv_said.specs.declared.dues.Due.{Due}
use Rattle.solv_draft.specs.Drafts.{IsAsBefore, drawn}
use Rattle.solv_draft.specs.declared.draft_fault.DraftFault.{DraftFault}
use Rattle.solv_draft.specs.declared.draft_fault.DraftFault.TheVariants as fault
use Rattle.solv_solved.specs.Anew.{IsSame}
use Rattle.solv_solved.specs.Solvings.{IsSolved, program}
use Rattle.solv_solved.specs.declared.anew.Again.{Again}
use Rattle.solv_solved.specs.declared.anew.Again.TheVariants as ended
use Rattle.solv_solved.specs.declared.building.Given.{Given}
use Rattle.solv_solved.specs.declared.building.Given.TheVariants.{Done, Refuses, Misused}
use Rattle.solv_solved.specs.declared.opened.Opened.{Opened}
use Rattle.solv_solved.specs.declared.outcomes.Held.{Held}
use Rattle.solv_solved.specs.declared.outcomes.Held.TheVariants.{Answered, Refused, Open}
use Rattle.solv_solved.specs.declared.with_answer.Solved.{Solved}

-- the task that is held, with its answer or without; a refusal has none
abbrev pub task_of : Held → Option Task
task_of (Answered solved) = Some solved.script.task
task_of (Refused due) = None
task_of (Open opened) = Some opened.draft.task

-- a task before the first call
pub record IsEmpty (opened : Opened) : Type 0 where
  pub task : drawn opened.draft.task ≡ no_line
  pub said : opened.said ≡ []

abbrev pub IsEmptyHeld : Held → Type 0
IsEmptyHeld (Answered solved) = ⊥
IsEmptyHeld (Refused due) = ⊥
IsEmptyHeld (Open opened) = IsEmpty opened

-- the script whose only round is this task
abbrev pub script_of : Task → Script
script_of task = record { task = task; kinds = default_kinds; wanted = None; checks = []; later = [] }

-- A task is given what a call gives. Or the first bad line of the call's text is refused, which is reported under the call's name; or a number names nothing. Then
-- the task is as it was.
pub data IsGiven (name : List ℕ) (call : State → Result State DraftFault) (task : Task) (new : Opened) : Given → Type 0 where
  done : call (drawn task) ≡ Ok (drawn new.draft.task) → new.said ≡ [] → IsGiven name call task new Done
  refused : (line : ℕ) (cause : Cause) → call (drawn task) ≡ Err (fault.Refused line cause) → IsAsBefore task new.draft.task → new.said ≡ line_at program name line (cause_name cause) → IsGiven name call task new Refuses
  misused : call (drawn task) ≡ Err fault.Misused → IsAsBefore task new.draft.task → new.said ≡ [] → IsGiven name call task new Misused

-- so it is with what is held: a task without an answer is held then. A refusal has no task, and stays
pub data IsBuilt (name : List ℕ) (call : State → Result State DraftFault) : Held → Held → Given → Type 0 where
  of_task : (old : Held) (task : Task) (new : Opened) (how : Given) → task_of old ≡ Some task → IsGiven name call task new how → IsBuilt name call old (Open new) how
  of_refusal : (due : Due) → IsBuilt name call (Refused due) (Refused due) Misused

-- a task without an answer is as it was, and so is what was said of it
pub record IsStillOpen (old new : Opened) : Type 0 where
  pub task : IsAsBefore old.draft.task new.draft.task
  pub said : new.said ≡ old.said

-- What is held stays: an answer, of which nothing has changed; a task without one; a refusal.
abbrev pub IsStill : Held → Held → Type 0
IsStill (Answered old) (Answered new) = IsSame old new
IsStill (Refused old) (Refused new) = new ≡ old
IsStill (Open old) (Open new) = IsStillOpen old new
IsStill old new = ⊥

-- What is held is answered within the budget: a task has an answer then, in place of any before it. Or the clauses of a task without an answer pass a limit, which is
-- reported; one with an answer passes none. A refusal has no task, and stays.
pub data IsTaskSolved (budget : ℕ) : Held → Held → Again → Type 0 where
  answered : (old : Held) (task : Task) (new : Solved) → task_of old ≡ Some task → IsSolved budget (script_of task) new → IsTaskSolved budget old (Answered new) ended.Answered
  passes : (old new : Opened) (limit : BookFault) → first_fault (catalog_of old.draft.task) 0 (hard_rules old.draft.task) ≡ Some limit → new.draft.task ≡ old.draft.task → new.said ≡ limit_line program old.draft.task limit
      → IsTaskSolved budget (Open old) (Open new) ended.Passes
  no_task : (due : Due) → IsTaskSolved budget (Refused due) (Refused due) ended.Misused
