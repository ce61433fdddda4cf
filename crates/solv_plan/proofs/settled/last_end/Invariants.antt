use Rattle.std.proofs.Common.{◌≡◌, ◌≤◌, ℕ, length, take}
use Rattle.solv_plan.specs.Inner.Entries.{is_settled}
use Rattle.solv_plan.proofs.settled.last_end.Given as goal

abbrev pub invariant-loop-end : goal.invariant-loop-end
invariant-loop-end l = record {
  within : l.end ≤ length l.entries;
  settled : (i : ℕ) → is_settled (take l.end l.entries) i ≡ is_settled l.entries i;
}

abbrev pub decreases-loop-end : goal.decreases-loop-end
decreases-loop-end l = l.end
