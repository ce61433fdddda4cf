-- Logs without the steps that nothing rests on, the others being numbered anew.
use Rattle.std.specs.Prelude.{◌≡◌, ◌⊎◌, ◌+◌, ◌<◌, ◌≤◌, ℕ, zero, suc, ℤ, Bool, true, false, List, [], ◌∷◌, Some, map, length, slice_get, slice_index_or, if◌then◌else◌}
use Rattle.solv_derive.specs.Leaves.{leaves, is_one_of}
use Rattle.solv_derive.specs.Logs.{is_good_log}
use Rattle.solv_derive.specs.Range.{steps_over}
use Rattle.solv_derive.specs.declared.logs.Hint.{Hint}
use Rattle.solv_derive.specs.declared.logs.Hint.TheVariants as hint
use Rattle.solv_derive.specs.declared.logs.Step.{Step}
use Rattle.std.specs.List.{list_any}
use Rattle.solv_derive.specs.Trimming.{names_step, is_trimmed}

-- some of the hints names the step of this number
abbrev pub hints_at : ℕ → List Hint → Bool
hints_at n hints = list_any (names_step n) hints

-- a later step in use rests on the step of this number
pub record IsRestedOn (steps : List Step) (used : ℕ → Bool) (n : ℕ) : Type 0 where
  pub by : ℕ
  pub step : Step
  pub later : n < by
  pub there : slice_get steps by ≡ Some step
  pub on : used by ≡ true
  pub hinted : hints_at n step.hints ≡ true

-- of the elements of a list, whose first has this number, those that are in use
abbrev pub in_use_from : {A : Type 0} → (ℕ → Bool) → ℕ → List A → List A
in_use_from used k [] = []
in_use_from used k (x ∷ xs) = if used k then x ∷ in_use_from used (suc k) xs else in_use_from used (suc k) xs

-- how many of the next n numbers from k on are in use
abbrev pub rank_from : (ℕ → Bool) → ℕ → ℕ → ℕ
rank_from used k zero = 0
rank_from used k (suc n) = if used k then suc (rank_from used (suc k) n) else rank_from used (suc k) n

-- the hint, where steps have these new numbers
abbrev pub renumbered : (ℕ → ℕ) → Hint → Hint
renumbered number (hint.Book rule) = hint.Book rule
renumbered number (hint.Step step) = hint.Step (number step)

abbrev pub renumbered_step : (ℕ → ℕ) → Step → Step
renumbered_step number s = record { clause = s.clause; hints = map (renumbered number) s.hints }

-- the steps in use alone
abbrev pub used_alone : (ℕ → Bool) → (ℕ → ℕ) → List Step → List Step
used_alone used number steps = map (renumbered_step number) (in_use_from used 0 steps)

-- the number in a table; where it has none, the same
abbrev pub numbered_by : List ℕ → ℕ → ℕ
numbered_by numbers n = slice_index_or numbers n n

abbrev pub is_on : List Bool → ℕ → Bool
is_on table n = slice_index_or table n false

-- what a step in use, from this place on, rests on is in use
abbrev pub IsClosed : List Step → ℕ → (ℕ → Bool) → Type 0
IsClosed steps from used = (j : ℕ) (s : Step) → from ≤ j → slice_get steps j ≡ Some s → used j ≡ true → (n : ℕ) → n < j → hints_at n s.hints ≡ true → used n ≡ true

-- the last step is in use, and each other one in use has a later one that rests on it
pub record IsGrounded (steps : List Step) (used : ℕ → Bool) : Type 0 where
  pub last : (n : ℕ) → n + 1 ≡ length steps → used n ≡ true
  pub each : (n : ℕ) → used n ≡ true → (n + 1 ≡ length steps) ⊎ IsRestedOn steps used n

-- each step in use has the number of those in use before it
abbrev pub AreRanks : (ℕ → Bool) → (ℕ → ℕ) → Type 0
AreRanks used number = (n : ℕ) → used n ≡ true → number n ≡ rank_from used 0 n

-- what is left of a log: no step but the last that nothing rests on, no new leaf and no new literal; and a good log stays good
pub record IsTrimmedFrom (old new : List Step) : Type 0 where
  pub trimmed : is_trimmed new ≡ true
  pub good : (book : List (List ℤ)) → is_good_log book old ≡ true → is_good_log book new ≡ true
  pub rests : (rule : ℕ) → is_one_of (leaves new) rule ≡ true → is_one_of (leaves old) rule ≡ true
  pub over : (count : ℕ) → steps_over count old ≡ true → steps_over count new ≡ true
