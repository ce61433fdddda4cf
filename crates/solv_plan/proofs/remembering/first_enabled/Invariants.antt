use Rattle.std.proofs.Common.{◌≡◌, ◌≤◌, ◌-◌, length, drop, Bool}
use Rattle.std.specs.Prelude.{ℤ, flat_map}
use Rattle.solv_plan.specs.Inner.Plans.{demand_queries}
use Rattle.solv_plan.proofs.remembering.first_enabled.Given as goal

abbrev pub invariant-loop-place : goal.invariant-loop-place
invariant-loop-place l = record {
  forward : l.from ≤ l.place;
  left : (known : ℤ → Bool) → flat_map (demand_queries known l.enabled) (drop l.place l.demands) ≡ flat_map (demand_queries known l.enabled) (drop l.from l.demands);
}

abbrev pub decreases-loop-place : goal.decreases-loop-place
decreases-loop-place l = length l.demands - l.place
