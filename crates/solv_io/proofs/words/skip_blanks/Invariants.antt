use Rattle.std.proofs.Common.{◌≡◌, drop}
use Rattle.solv_io.specs.Words.{words_of}
use Rattle.solv_io.proofs.words.skip_blanks.Given as goal

abbrev pub invariant-loop-i : goal.invariant-loop-i
invariant-loop-i l = words_of (drop l.i l.line) ≡ words_of l.line
