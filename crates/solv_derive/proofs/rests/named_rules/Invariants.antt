use Rattle.std.proofs.Common.{◌≡◌, ◌++◌, drop}
use Rattle.solv_derive.specs.Leaves.{named_rules}
use Rattle.solv_derive.proofs.rests.named_rules.Given as goal

abbrev pub invariant-loop-step : goal.invariant-loop-step
invariant-loop-step l = l.rules.items ++ named_rules (drop l.step-index l.steps) ≡ named_rules l.steps
