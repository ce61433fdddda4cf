use Rattle.std.proofs.Common.{◌≡◌, ◌++◌, map, drop}
use Rattle.solv_derive.specs.Inner.Trimming.{numbered_by, renumbered}
use Rattle.solv_core.proofs.refutation.placed_hints.Given as goal

abbrev pub invariant-loop-hint : goal.invariant-loop-hint
invariant-loop-hint l = l.list.items ++ map (renumbered (numbered_by l.places)) (drop l.hint-index l.hints) ≡ map (renumbered (numbered_by l.places)) l.hints
