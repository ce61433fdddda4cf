-- What the calls do that build a task, and the one that answers it.
use Rattle.std.specs.Prelude.{ℕ, ◌≤◌, ℤ, pos, List, Option, Some, None, Result}
use Rattle.solv_script.specs.States.{State}
use Rattle.solv_draft.specs.declared.draft_fault.DraftFault.{DraftFault}
use Rattle.solv_solved.specs.Building.{IsBuilt, IsEmptyHeld, IsStill, IsTaskSolved}
use Rattle.solv_solved.specs.Texts as held
use Rattle.solv_solved.specs.declared.anew.Again.TheVariants as ended
use Rattle.solv_solved.specs.declared.building.Given.TheVariants.{Done, Refuses, Misused}
use Rattle.solv_solved.specs.declared.outcomes.Held.{Held}
use Rattle.gachuswi.specs.Calls.{misused, no_memory}
use Rattle.gachuswi.specs.Tasks.{number_of}
use Rattle.gachuswi.specs.TasksAnew.{refused}

-- what a call answers that is done
abbrev pub done : ℤ
done = pos 0

-- how many repositories there are
abbrev pub repo_count : Option Held → ℕ
repo_count None = 0
repo_count (Some kept) = held.repo_count_of kept

-- a call of `gachuswi_task_open`: a task before the first call is kept; or memory ran out, and what was kept stays
pub data IsOpenCall (old : Option Held) : Option Held → ℤ → Type 0 where
  opened : (new : Held) → IsEmptyHeld new → IsOpenCall old (Some new) done
  ran_out : IsOpenCall old old no_memory

-- A call of this name that builds: the task has what was given; or a text is refused, which is reported; or a number names nothing, or there is no task; or memory ran out,
-- and what was kept stays, with its answer; or nothing was kept.
pub data IsBuildCall (name : List ℕ) (call : State → Result State DraftFault) : Option Held → Option Held → ℤ → Type 0 where
  has_built : (old new : Held) → IsBuilt name call old new Done → IsBuildCall name call (Some old) (Some new) done
  refuses : (old new : Held) → IsBuilt name call old new Refuses → IsBuildCall name call (Some old) (Some new) refused
  names_none : (old new : Held) → IsBuilt name call old new Misused → IsBuildCall name call (Some old) (Some new) misused
  ran_out : (old new : Held) → IsStill old new → IsBuildCall name call (Some old) (Some new) no_memory
  nothing : IsBuildCall name call None None misused

-- A call of `gachuswi_task_answer`: the task has an answer, whose number is reported; or its clauses pass a limit, which is reported, and it had no answer before; or there is no
-- task; or memory ran out, and what was kept stays, with its answer; or the budget is too great, or nothing was kept.
pub data IsAnswerCall (budget : ℕ) : Option Held → Option Held → ℤ → Type 0 where
  answered : (old new : Held) → budget ≤ 1000000 → IsTaskSolved budget old new ended.Answered → IsAnswerCall budget (Some old) (Some new) (number_of (Some new))
  passes : (old new : Held) → budget ≤ 1000000 → IsTaskSolved budget old new ended.Passes → IsAnswerCall budget (Some old) (Some new) refused
  no_task : (old new : Held) → budget ≤ 1000000 → IsTaskSolved budget old new ended.Misused → IsAnswerCall budget (Some old) (Some new) misused
  ran_out : (old : Held) → budget ≤ 1000000 → IsAnswerCall budget (Some old) (Some old) no_memory
  too_great : (old : Option Held) → (budget ≤ 1000000 → ⊥) → IsAnswerCall budget old old misused
  nothing : IsAnswerCall budget None None misused
