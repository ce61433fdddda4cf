use Rattle.std.proofs.Common.{◌≡◌, ◌++◌, map, drop}
use Rattle.solv_derive.specs.Inner.Trimming.{renumbered}
use Rattle.solv_core.specs.Inner.Holding.{entry_of}
use Rattle.solv_core.proofs.refutation.numbered_hints.Given as goal

abbrev pub invariant-loop-hint : goal.invariant-loop-hint
invariant-loop-hint l = l.list.items ++ map (renumbered (entry_of l.numbers.kept.items l.numbers.first)) (drop l.hint-index l.hints) ≡ map (renumbered (entry_of l.numbers.kept.items l.numbers.first)) l.hints
