-- How calls of the outside end, and what counts them.
use Rattle.std.specs.Prelude.{ℕ, ◌≡◌, ◌-◌, ◌^◌, ◌<◌, ◌⊎◌}

-- the last value of a counter of calls or faults, at which it stays
abbrev pub last : ℕ
last = 2 ^ 64 - 1

-- a counter rose: it is greater, or it stays at its last value
abbrev pub Rose : ℕ → ℕ → Type 0
Rose old new = (old < new) ⊎ ((old ≡ last) × (new ≡ last))

-- how a call of the outside ends: with its answer, with a failure, or without memory
pub data Ending : Type 0 where
  Answered : Ending
  Failing : Ending
  NoMemory : Ending

-- the count of faults rises in a call that fails, and stays in every other
abbrev pub CountsFaults : Ending → ℕ → ℕ → Type 0
CountsFaults Answered old new = new ≡ old
CountsFaults Failing old new = Rose old new
CountsFaults NoMemory old new = new ≡ old
