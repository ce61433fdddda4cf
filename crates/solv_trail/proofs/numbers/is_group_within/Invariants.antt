use Rattle.std.proofs.Common.{◌≡◌, ℕ, ◌≤◌, ◌<◌, ◌*◌, ◌%◌, ◌&&◌, not, false, eqb}
use Rattle.std.specs.Int.{bit_at}
use Rattle.solv_trail.specs.Inner.Numbers.{has}
use Rattle.solv_trail.proofs.numbers.is_group_within.Given as goal

abbrev pub invariant-loop-place : goal.invariant-loop-place
invariant-loop-place l = (k : ℕ) → l.start * 64 ≤ k → k < l.place * 64 → eqb (bit_at l.lacking (k % 64)) 1 ≡ false → (has l.words k && not (has l.other k)) ≡ false
