-- The last of the numbers that pass a test.
use Rattle.std.specs.Prelude.{◌≡◌, ℕ, ◌<◌, ◌≤◌, Bool, true, false, Option, None, Some}

-- the last number from `low` on and below `end` that passes the test
abbrev pub IsLast : (ℕ → Bool) → ℕ → ℕ → Option ℕ → Type 0
IsLast test low end None = (k : ℕ) → low ≤ k → k < end → test k ≡ false
IsLast test low end (Some n) = (low ≤ n) × (n < end) × (test n ≡ true) × ((k : ℕ) → n < k → k < end → test k ≡ false)
