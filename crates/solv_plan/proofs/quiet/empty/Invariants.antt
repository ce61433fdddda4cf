use Rattle.std.proofs.Common.{◌≡◌, ◌<◌, ◌-◌, ℕ, false}
use Rattle.solv_trail.specs.Inner.Numbers.{has}
use Rattle.solv_plan.proofs.quiet.empty.Given as goal

abbrev pub invariant-loop-place : goal.invariant-loop-place
invariant-loop-place l = record {
  out : (k : ℕ) → k < l.from → has l.places k ≡ false;
}

abbrev pub decreases-loop-place : goal.decreases-loop-place
decreases-loop-place l = 2147483648 - l.from
