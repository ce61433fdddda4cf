-- What the calls do that read a task by numbers.
use Rattle.std.specs.Prelude.{ℕ, ◌≡◌, ◌≤◌, ℤ, pos, Bool, if◌then◌else◌, is_some, List, [], Option, Some, None}
use Rattle.std.specs.Str.{IsUtf8}
use Rattle.solv_trans.specs.declared.kinds.Change.{Change}
use Rattle.solv_remedy.specs.declared.problems.Problem.{Problem}
use Rattle.solv_lent.specs.declared.lent_file.LentFile.{LentFile}
use Rattle.solv_solved.specs.Readings as held
use Rattle.solv_solved.specs.Solvings.{IsHeldOfLent}
use Rattle.solv_solved.specs.declared.outcomes.Held.{Held}
use Rattle.gachuswi.specs.Calls.{misused, no_memory}

-- what a task holds: the number of its answer, or of a refusal, and the line on what is wrong; where nothing is held the call was made wrongly
abbrev pub number_of : Option Held → ℤ
number_of None = misused
number_of (Some kept) = pos (held.number_of kept)

abbrev pub line_of : Option Held → List ℕ
line_of None = []
line_of (Some kept) = held.line_of kept

-- the changes, their order, the packages that are there after them, and the problems; where nothing is held, there are none
abbrev pub changes_of : Option Held → List Change
changes_of None = []
changes_of (Some kept) = held.changes_of kept

abbrev pub order_of : Option Held → List ℕ
order_of None = []
order_of (Some kept) = held.order_of kept

abbrev pub set_of : Option Held → List ℕ
set_of None = []
set_of (Some kept) = held.set_of kept

abbrev pub problems_of : Option Held → List Problem
problems_of None = []
problems_of (Some kept) = held.problems_of kept

-- the cycles of the order, of pre-requirements or of all requirements, and the one of a number
abbrev pub cycles_of : Bool → Option Held → List (List ℕ)
cycles_of pre None = []
cycles_of pre (Some kept) = held.cycles_of pre kept

abbrev pub cycle_of : Bool → Option Held → ℕ → Option (List ℕ)
cycle_of pre None cycle = None
cycle_of pre (Some kept) cycle = held.cycle_of pre kept cycle

-- what is asked for by numbers: of a problem, or of a solution of a problem
abbrev pub of_problem : {A : Type 0} → (Held → ℕ → Option A) → Option Held → ℕ → Option A
of_problem ask None problem = None
of_problem ask (Some kept) problem = ask kept problem

abbrev pub of_solution : {A : Type 0} → (Held → ℕ → ℕ → Option A) → Option Held → ℕ → ℕ → Option A
of_solution ask None problem solution = None
of_solution ask (Some kept) problem solution = ask kept problem solution

-- whether numbers name something, as an answer to the caller
abbrev pub code_where : Bool → ℤ
code_where named = if named then pos 0 else misused

abbrev pub code_of : {A : Type 0} → Option A → ℤ
code_of named = code_where (is_some named)

module _ (files : List LentFile) (script : List ℕ) (budget : ℕ) where
  -- what the script comes to is kept, and this is its number
  pub record IsKeptTask (kept : Option Held) (code : ℤ) : Type 0 where
    pub outcome : Held
    pub is_held : IsHeldOfLent files script budget outcome
    pub is_kept : kept ≡ Some outcome
    pub number : code ≡ number_of kept

  -- the script's name is a text, and the budget is not too great
  pub record MaySolve : Type 0 where
    pub name : IsUtf8 script
    pub within : budget ≤ 1000000

  -- a call of `gachuswi_task_solve`: it may solve, and does; or it may, but memory runs out; or it may not. The last two leave what was kept.
  pub data IsTaskCall (old new : Option Held) (code : ℤ) : Type 0 where
    solved : MaySolve → IsKeptTask new code → IsTaskCall old new code
    ran_out : MaySolve → new ≡ old → code ≡ no_memory → IsTaskCall old new code
    refused : (MaySolve → ⊥) → new ≡ old → code ≡ misused → IsTaskCall old new code
