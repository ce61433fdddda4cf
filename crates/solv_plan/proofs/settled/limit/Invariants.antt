use Rattle.std.proofs.Common.{◌≡◌, ◌<◌, ◌-◌, ℕ, true}
use Rattle.solv_trail.specs.Inner.Numbers.{has}
use Rattle.solv_plan.proofs.settled.limit.Given as goal

abbrev pub invariant-loop-number : goal.invariant-loop-number
invariant-loop-number l = record {
  within : (k : ℕ) → k < l.from → has l.numbers k ≡ true → has l.others k ≡ true;
}

abbrev pub decreases-loop-number : goal.decreases-loop-number
decreases-loop-number l = 2147483648 - l.from
