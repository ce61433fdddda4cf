use Rattle.std.proofs.Common.{length, ◌-◌, ◌≡◌, ◌≤◌, drop}
use Rattle.solv_deps.specs.Words.{unpaired_in}
use Rattle.solv_deps.proofs.printing.count_unpaired.Given as goal

abbrev pub invariant-loop-i : goal.invariant-loop-i
invariant-loop-i l = (l.i ≤ length l.word) × (l.unpaired ≤ l.i) × (unpaired_in 0 l.word ≡ unpaired_in l.unpaired (drop l.i l.word))

abbrev pub decreases-loop-i : goal.decreases-loop-i
decreases-loop-i l = length l.word - l.i
