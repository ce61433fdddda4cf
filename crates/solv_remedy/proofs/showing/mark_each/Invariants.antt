use Rattle.std.proofs.Common.{◌≡◌, ◌<◌, ◌||◌, ℕ, length, take}
use Rattle.solv_pool.specs.Prelude.{is_among}
use Rattle.solv_trail.specs.Asked.{is_enabled}
use Rattle.solv_remedy.proofs.showing.mark_each.Given as goal

abbrev pub invariant-loop-pack : goal.invariant-loop-pack
invariant-loop-pack l = record {
  size : length l.table ≡ length l.initial.table;
  on : (p : ℕ) → p < length l.initial.table → is_enabled l.table p ≡ (is_enabled l.initial.table p || is_among (take l.pack-index l.packs) p);
}
