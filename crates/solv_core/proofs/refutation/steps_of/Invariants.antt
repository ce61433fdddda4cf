use Rattle.std.proofs.Common.{◌≡◌, List, length, take}
use Rattle.solv_derive.specs.declared.logs.Step.{Step}
use Rattle.solv_core.specs.Inner.Holding.{AreEntries, entry_of}
use Rattle.solv_core.proofs.refutation.steps_of.Given as goal

abbrev pub invariant-loop-rule : goal.invariant-loop-rule
invariant-loop-rule l = record {
  list : (steps : List Step) → AreEntries l.entries (entry_of l.numbers.kept.items l.numbers.first) steps → length steps ≡ l.count → l.list.items ≡ take l.rule steps;
}
