use Rattle.std.proofs.Common.{◌≡◌, ℕ, ◌≤◌, ◌<◌, length, get_or, false}
use Rattle.solv_base.specs.Evr.{is_dash}
use Rattle.solv_base.proofs.version.last_dash.Given as goal

abbrev pub invariant-loop-n : goal.invariant-loop-n
invariant-loop-n l = record { in_range : l.n ≤ length l.text; none_behind : (k : ℕ) → l.n ≤ k → k < length l.text → is_dash (get_or l.text k 0) ≡ false }

abbrev pub decreases-loop-n : goal.decreases-loop-n
decreases-loop-n l = l.n
