use Rattle.std.proofs.Common.{◌≡◌, drop}
use Rattle.solv_derive.specs.Range.{steps_over}
use Rattle.solv_derive.proofs.checker.steps_within.Given as goal

abbrev pub invariant-loop-step : goal.invariant-loop-step
invariant-loop-step l = steps_over l.count (drop l.step-index l.steps) ≡ steps_over l.count l.steps
