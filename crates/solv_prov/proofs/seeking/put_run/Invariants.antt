use Rattle.std.proofs.Common.{ℕ, ◌≡◌, ◌≤◌, ◌<◌, true, Some, slice_get}
use Rattle.solv_pool.specs.Prelude.{is_among}
use Rattle.solv_prov.specs.declared.ranking.Placed.{Placed}
use Rattle.solv_prov.proofs.seeking.put_run.Given as goal

abbrev pub invariant-loop-at : goal.invariant-loop-at
invariant-loop-at l = record {
  kept : (p : ℕ) → is_among l.initial.places.items p ≡ true → is_among l.places.items p ≡ true;
  put : (k : ℕ) → k < l.at → (y : Placed) → l.from ≤ k → slice_get l.order k ≡ Some y → is_among l.places.items y.place ≡ true;
}
