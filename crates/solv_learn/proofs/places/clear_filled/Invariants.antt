use Rattle.std.proofs.Common.{◌≡◌, ℕ, ◌≤◌, ◌<◌, ◌/◌, true, length}
use Rattle.solv_trail.specs.Inner.Numbers.{has}
use Rattle.solv_learn.proofs.places.clear_filled.Given as goal

abbrev pub invariant-loop-place : goal.invariant-loop-place
invariant-loop-place l = record {
  within : l.end ≤ length l.words;
  left : (k : ℕ) → has l.words k ≡ true → (has l.filled (k / 64) ≡ true) × (k / 64 < l.end);
}

abbrev pub decreases-loop-place : goal.decreases-loop-place
decreases-loop-place l = l.end
