use Rattle.std.proofs.Common.{ℕ, ◌≡◌, ◌<◌, ◌||◌, length, drop}
use Rattle.solv_pool.specs.Prelude.{is_among}
use Rattle.solv_trans.specs.Inner.Joining.{is_marked}
use Rattle.solv_trans.proofs.marks.mark_all.Given as goal

abbrev pub invariant-loop-pack : goal.invariant-loop-pack
invariant-loop-pack l = (p : ℕ) → p < length l.initial.table → (is_marked l.table p || is_among (drop l.pack-index l.packs) p) ≡ (is_marked l.initial.table p || is_among l.packs p)
