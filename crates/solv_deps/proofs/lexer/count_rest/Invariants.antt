use Rattle.std.proofs.Common.{length, ◌-◌, ◌≡◌, ◌+◌, ◌≤◌, drop}
use Rattle.solv_deps.specs.Words.{word_rest}
use Rattle.solv_deps.proofs.lexer.count_rest.Given as goal

abbrev pub invariant-loop-i : goal.invariant-loop-i
invariant-loop-i l = (l.i ≤ length l.text) × (l.unpaired ≤ l.i) × (word_rest 0 l.text ≡ l.i + word_rest l.unpaired (drop l.i l.text))

abbrev pub decreases-loop-i : goal.decreases-loop-i
decreases-loop-i l = length l.initial.text - l.i
