use Rattle.std.proofs.Common.{◌≡◌, ◌+◌, drop}
use Rattle.std.specs.Prelude.{not}
use Rattle.std.specs.List.{prefix_len}
use Rattle.solv_io.specs.Words.{is_blank}
use Rattle.solv_io.proofs.words.word_len.Given as goal

abbrev pub invariant-loop-i : goal.invariant-loop-i
invariant-loop-i l = prefix_len (λ byte. not (is_blank byte)) l.line ≡ l.i + prefix_len (λ byte. not (is_blank byte)) (drop l.i l.line)
