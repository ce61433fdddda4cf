-- What the call does that answers a task anew.
use Rattle.std.specs.Prelude.{ℕ, ◌≤◌, ℤ, pos, List, Option, Some, None}
use Rattle.solv_solved.specs.Anew.{IsHeldAgain, IsHeldSame}
use Rattle.solv_solved.specs.declared.anew.Again.TheVariants.{Answered, Passes, Misused}
use Rattle.solv_draft.specs.declared.flag_row.FlagRow.{FlagRow}
use Rattle.solv_draft.specs.declared.job_row.JobRow.{JobRow}
use Rattle.solv_solved.specs.declared.outcomes.Held.{Held}
use Rattle.gachuswi.specs.Calls.{misused, no_memory}
use Rattle.gachuswi.specs.Tasks.{number_of}

-- what a call answers where the clauses pass a limit
abbrev pub refused : ℤ
refused = pos 2

-- A call of `gachuswi_task_solve_again` with these flags and jobs: the task has an answer to them, whose number is reported; or its clauses pass a limit; or a job is
-- none that there is, or no answer was kept; or memory ran out; or the budget is too great, or nothing was kept. In all but the first nothing of what was kept has
-- changed.
pub data IsAgainCall (budget : ℕ) (flags : FlagRow) (rows : List JobRow) : Option Held → Option Held → ℤ → Type 0 where
  answered : (old new : Held) → budget ≤ 1000000 → IsHeldAgain budget flags rows old new Answered → IsAgainCall budget flags rows (Some old) (Some new) (number_of (Some new))
  passes : (old new : Held) → budget ≤ 1000000 → IsHeldAgain budget flags rows old new Passes → IsAgainCall budget flags rows (Some old) (Some new) refused
  no_jobs : (old new : Held) → budget ≤ 1000000 → IsHeldAgain budget flags rows old new Misused → IsAgainCall budget flags rows (Some old) (Some new) misused
  ran_out : (old new : Held) → budget ≤ 1000000 → IsHeldSame old new → IsAgainCall budget flags rows (Some old) (Some new) no_memory
  too_great : (old : Option Held) → (budget ≤ 1000000 → ⊥) → IsAgainCall budget flags rows old old misused
  nothing : IsAgainCall budget flags rows None None misused
