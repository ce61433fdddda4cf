use Rattle.std.proofs.Common.{ℕ, length, ◌-◌, ◌≡◌, ◌+◌, ◌≤◌, drop}
use Rattle.solv_deps.specs.Words.{word_rest}
use Rattle.solv_deps.proofs.lexer.count_plain.Given as goal

abbrev pub invariant-loop-i : goal.invariant-loop-i
invariant-loop-i l = (l.i ≤ length l.text) × ((unpaired : ℕ) → word_rest unpaired l.text ≡ l.i + word_rest unpaired (drop l.i l.text))

abbrev pub decreases-loop-i : goal.decreases-loop-i
decreases-loop-i l = length l.initial.text - l.i
