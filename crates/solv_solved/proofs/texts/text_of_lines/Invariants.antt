use Rattle.std.proofs.Common.{◌≡◌, ◌++◌, drop}
use Rattle.solv_io.specs.Lines.{ended_lines}
use Rattle.solv_solved.proofs.texts.text_of_lines.Given as goal

abbrev pub invariant-loop-line : goal.invariant-loop-line
invariant-loop-line l = l.text.items ++ ended_lines (drop l.line-index l.lines) ≡ ended_lines l.lines
