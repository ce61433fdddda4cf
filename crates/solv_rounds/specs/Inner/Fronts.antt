-- The rounds of a script by their place, which counts from the first one.
use Rattle.std.specs.Prelude.{ℕ, zero, suc, ◌≡◌, IsSomeAnd, List, Option, slice_get}
use Rattle.solv_pool.specs.Prelude.{catalog_of, hard_rules}
use Rattle.solv_pool.specs.declared.tasks.Task.{Task}
use Rattle.solv_answers.specs.Answers.{IsPrepared}
use Rattle.solv_answers.specs.declared.preparing.Prepared.{Prepared}
use Rattle.solv_rules.specs.Books.{IsDue, first_fault}
use Rattle.solv_rules.specs.declared.fault.BookFault.{BookFault}
use Rattle.solv_script.specs.Inner.Turns.{exchanged}
use Rattle.solv_script.specs.declared.scripts.Script.{Script}

-- a script with the round at a place in front, and its first round there
abbrev pub in_front : ℕ → Script → Script
in_front zero script = script
in_front (suc place) script = exchanged place script

module _ (tasks : List Task) (place : ℕ) where
  -- it is prepared for the task at the place
  abbrev pub IsPreparedAt : Prepared → Type 0
  IsPreparedAt prepared = IsSomeAnd (slice_get tasks place) (λ task. IsPrepared task prepared)

  -- running out of memory, or the first limit that the clauses of the task at the place pass
  abbrev pub IsDueAt : BookFault → Type 0
  IsDueAt fault = IsSomeAnd (slice_get tasks place) (λ task. IsDue (first_fault (catalog_of task) 0 (hard_rules task)) fault)

  -- the first limit that they pass, if they pass one
  abbrev pub IsLimitAt : Option BookFault → Type 0
  IsLimitAt limit = IsSomeAnd (slice_get tasks place) (λ task. limit ≡ first_fault (catalog_of task) 0 (hard_rules task))
