use Rattle.std.proofs.Common.{◌≤◌, ◌-◌, length}
use Rattle.solv_rules.proofs.dependencies.finds.Given as goal

abbrev pub invariant-loop-low : goal.invariant-loop-low
invariant-loop-low l = l.high ≤ length l.packs

abbrev pub decreases-loop-low : goal.decreases-loop-low
decreases-loop-low l = l.high - l.low
