use Rattle.std.proofs.Common.{ℕ, ◌≡◌, ◌<◌, ◌||◌, length, drop}
use Rattle.solv_pool.specs.Prelude.{is_among}
use Rattle.solv_clean.specs.Inner.Tables.{is_marked}
use Rattle.solv_leaving.proofs.starting.mark_all.Given as goal

abbrev pub invariant-loop-pack : goal.invariant-loop-pack
invariant-loop-pack l = record {
  size : length l.table ≡ length l.initial.table;
  marked : (p : ℕ) → p < length l.initial.table → (is_marked l.table p || is_among (drop l.pack-index l.packs) p) ≡ (is_marked l.initial.table p || is_among l.packs p);
}
