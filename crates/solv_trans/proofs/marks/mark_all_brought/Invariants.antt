use Rattle.std.proofs.Common.{ℕ, ◌≡◌, ◌<◌, ◌||◌, length, drop}
use Rattle.solv_trans.specs.Effects.{is_brought}
use Rattle.solv_trans.specs.Inner.Joining.{is_marked}
use Rattle.solv_trans.proofs.marks.mark_all_brought.Given as goal

abbrev pub invariant-loop-change : goal.invariant-loop-change
invariant-loop-change l = (p : ℕ) → p < length l.initial.table → (is_marked l.table p || is_brought (drop l.change-index l.changes) p) ≡ (is_marked l.initial.table p || is_brought l.changes p)
