use Rattle.std.proofs.Common.{◌≡◌, ℕ, ◌≤◌, ◌<◌, ◌*◌, false}
use Rattle.solv_trail.specs.Inner.Numbers.{has}
use Rattle.solv_learn.proofs.places.last_of_filled.Given as goal

abbrev pub invariant-loop-place : goal.invariant-loop-place
invariant-loop-place l = record {
  within : l.from ≤ l.end;
  none : (k : ℕ) → l.from * 64 ≤ k → k < l.end * 64 → has l.words k ≡ false;
}

abbrev pub decreases-loop-place : goal.decreases-loop-place
decreases-loop-place l = l.from
