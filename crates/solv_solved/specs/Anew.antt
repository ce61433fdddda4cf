-- A task that is answered anew, with other flags and jobs.
use Rattle.std.specs.Prelude.{ℕ, ◌≡◌, true, false, List, Some, length}
use Rattle.solv_pool.specs.Catalog.{catalog_of}
use Rattle.solv_pool.specs.HardRules.{hard_rules}
use Rattle.solv_rules.specs.Books.{first_fault}
use Rattle.solv_rules.specs.declared.fault.BookFault.{BookFault}
use Rattle.solv_draft.specs.JobRows.{are_rows, with_rows}
use Rattle.solv_solved.specs.Solvings.{IsSolved}
use Rattle.solv_solved.specs.declared.anew.Again.{Again}
use Rattle.solv_solved.specs.declared.anew.Again.TheVariants as ended
use Rattle.solv_said.specs.declared.dues.Due.{Due}
use Rattle.solv_solved.specs.declared.outcomes.Held.{Held}
use Rattle.solv_solved.specs.declared.outcomes.Held.TheVariants.{Answered, Refused, Open}
use Rattle.solv_draft.specs.declared.flag_row.FlagRow.{FlagRow}
use Rattle.solv_draft.specs.declared.job_row.JobRow.{JobRow}
use Rattle.solv_solved.specs.declared.opened.Opened.{Opened}
use Rattle.solv_solved.specs.declared.with_answer.Solved.{Solved}

-- nothing of an answer has changed
pub record IsSame (old new : Solved) : Type 0 where
  pub script : new.script ≡ old.script
  pub prov : new.prov ≡ old.prov
  pub rules : new.rules ≡ old.rules
  pub answer : new.answer ≡ old.answer
  pub ledger : new.ledger ≡ old.ledger

-- Answered anew with these flags and jobs: there is an answer to the script with them in place of its own, within the budget; or the clauses pass a limit; or
-- a job is none that there is. In the last two cases nothing has changed.
pub data IsAgain (budget : ℕ) (flags : FlagRow) (rows : List JobRow) (old new : Solved) : Again → Type 0 where
  again_answered : are_rows (length old.script.task.universe.packages) rows ≡ true → IsSolved budget (with_rows old.script flags rows) new → IsAgain budget flags rows old new ended.Answered
  again_passes : (fault : BookFault) → are_rows (length old.script.task.universe.packages) rows ≡ true
      → first_fault (catalog_of (with_rows old.script flags rows).task) 0 (hard_rules (with_rows old.script flags rows).task) ≡ Some fault → IsSame old new → IsAgain budget flags rows old new ended.Passes
  again_misused : are_rows (length old.script.task.universe.packages) rows ≡ false → IsSame old new → IsAgain budget flags rows old new ended.Misused

-- nothing of what is held has changed
abbrev pub IsHeldSame : Held → Held → Type 0
IsHeldSame (Answered old) (Answered new) = IsSame old new
IsHeldSame (Refused old) (Refused new) = new ≡ old
IsHeldSame (Open old) (Open new) = new ≡ old
IsHeldSame old new = ⊥

-- what is held is answered anew; a refusal is not, nor is a task without an answer, and both stay
pub data IsHeldAgain (budget : ℕ) (flags : FlagRow) (rows : List JobRow) : Held → Held → Again → Type 0 where
  of_answer : (old new : Solved) (how : Again) → IsAgain budget flags rows old new how → IsHeldAgain budget flags rows (Answered old) (Answered new) how
  of_refusal : (due : Due) → IsHeldAgain budget flags rows (Refused due) (Refused due) ended.Misused
  of_open : (opened : Opened) → IsHeldAgain budget flags rows (Open opened) (Open opened) ended.Misused
