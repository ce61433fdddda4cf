use Rattle.std.proofs.Common.{◌≡◌, ◌++◌, drop}
use Rattle.solv_io.specs.Lines.{ended_lines}
use Rattle.solv_writing.specs.Inner.RoundTexts.{later_text}
use Rattle.solv_writing.proofs.round_lines.put_later.Given as goal

abbrev pub invariant-loop-round : goal.invariant-loop-round
invariant-loop-round l = l.into.items ++ ended_lines (later_text (drop l.round-index l.rounds)) ≡ l.fn.into.items ++ ended_lines (later_text l.rounds)
