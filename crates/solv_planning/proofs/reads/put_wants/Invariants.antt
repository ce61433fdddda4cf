use Rattle.std.proofs.Common.{◌≡◌, ◌<◌, ◌||◌, ℕ, drop, length}
use Rattle.solv_plan.specs.Inner.PlanOf.{is_asked_by}
use Rattle.solv_trail.specs.Inner.Numbers.{has, room}
use Rattle.solv_planning.proofs.reads.put_wants.Given as goal

abbrev pub invariant-loop-want : goal.invariant-loop-want
invariant-loop-want l = record {
  size : length l.set ≡ length l.initial.set;
  left : (k : ℕ) → k < room l.initial.set → (is_asked_by (drop l.want-index l.wants) k || has l.set k) ≡ (is_asked_by l.wants k || has l.initial.set k);
}
