use Rattle.std.proofs.Common.{◌≡◌, ◌++◌, drop}
use Rattle.solv_solved.proofs.proving.copies_of.Given as goal

abbrev pub invariant-loop-step : goal.invariant-loop-step
invariant-loop-step l = l.copies.items ++ drop l.step-index l.steps ≡ l.steps
