use Rattle.std.proofs.Common.{◌≡◌, ℕ, ◌-◌, ◌<◌, ◌≤◌, false, length}
use Rattle.std.specs.Prelude.{slice_index_or}
use Rattle.solv_core.proofs.flags.past_groups_of.Given as goal

abbrev pub invariant-loop-place : goal.invariant-loop-place
invariant-loop-place l = record {
  forward : l.from ≤ l.place;
  within : l.place ≤ length l.flags;
  like : (k : ℕ) → l.from ≤ k → k < l.place → slice_index_or l.flags k false ≡ l.like;
}

abbrev pub decreases-loop-place : goal.decreases-loop-place
decreases-loop-place l = length l.flags - l.place
