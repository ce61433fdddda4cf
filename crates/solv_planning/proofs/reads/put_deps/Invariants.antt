use Rattle.std.proofs.Common.{◌≡◌, ◌<◌, ◌||◌, ℕ, drop, length}
use Rattle.solv_pool.specs.Prelude.{is_among}
use Rattle.solv_trail.specs.Inner.Numbers.{has, room}
use Rattle.solv_planning.proofs.reads.put_deps.Given as goal

abbrev pub invariant-loop-dep : goal.invariant-loop-dep
invariant-loop-dep l = record {
  size : length l.set ≡ length l.initial.set;
  left : (k : ℕ) → k < room l.initial.set → (is_among (drop l.dep-index l.deps) k || has l.set k) ≡ (is_among l.deps k || has l.initial.set k);
}
