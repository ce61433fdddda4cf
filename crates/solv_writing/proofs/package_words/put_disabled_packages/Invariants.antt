use Rattle.std.proofs.Common.{◌≡◌, ◌++◌, ◌+◌, drop}
use Rattle.solv_io.specs.Lines.{ended_lines}
use Rattle.solv_writing.specs.Inner.ByIds.{disabled_texts}
use Rattle.solv_writing.proofs.package_words.put_disabled_packages.Given as goal

abbrev pub invariant-loop-number : goal.invariant-loop-number
invariant-loop-number l =
    l.into.items ++ ended_lines (disabled_texts l.pool l.universe (l.number + 1) (drop l.number l.universe.disabled)) ≡ l.fn.into.items ++ ended_lines (disabled_texts l.pool l.universe 1 l.universe.disabled)
