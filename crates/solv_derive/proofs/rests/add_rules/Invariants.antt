use Rattle.std.proofs.Common.{◌≡◌, ◌++◌, drop}
use Rattle.solv_derive.specs.Inner.Leaves.{rules_of}
use Rattle.solv_derive.proofs.rests.add_rules.Given as goal

abbrev pub invariant-loop-hint : goal.invariant-loop-hint
invariant-loop-hint l = l.rules.items ++ rules_of (drop l.hint-index l.hints) ≡ l.initial.rules.items ++ rules_of l.hints
