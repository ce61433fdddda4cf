-- Sets of numbers, as words of 64 bits.
use Rattle.std.specs.Prelude.{◌≡◌, ℕ, ◌*◌, ◌/◌, ◌%◌, ◌<◌, ◌≤◌, ◌==◌, Bool, true, false, List, length, slice_index, Option, None, Some}
use Rattle.std.specs.Int.{bit_at}

-- the set has the number: its bit is set in the word where it stands
unfoldable pub has : List ℕ → ℕ → Bool
has words n = bit_at (slice_index words (n / 64)) (n % 64) == 1

-- the numbers that a set has room for are those below
abbrev pub room : List ℕ → ℕ
room words = 64 * length words

-- the first number from one on that passes the test
abbrev pub IsFirst : (ℕ → Bool) → ℕ → Option ℕ → Type 0
IsFirst test from None = (k : ℕ) → from ≤ k → test k ≡ false
IsFirst test from (Some n) = (from ≤ n) × (test n ≡ true) × ((k : ℕ) → from ≤ k → k < n → test k ≡ false)
