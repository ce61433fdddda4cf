use Rattle.std.proofs.Common.{ℕ, ◌≡◌, ◌≤◌, ◌<◌, true}
use Rattle.std.specs.Prelude.{slice_index}
use Rattle.solv_pool.specs.Prelude.{is_among}
use Rattle.solv_prov.proofs.ranking.behind.Given as goal

abbrev pub invariant-loop-place : goal.invariant-loop-place
invariant-loop-place l = record {
  seen : (p : ℕ) → p < l.place → l.end ≤ slice_index l.ranks p → is_among l.places.items p ≡ true;
}
