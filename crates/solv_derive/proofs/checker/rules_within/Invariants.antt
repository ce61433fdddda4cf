use Rattle.std.proofs.Common.{◌≡◌, drop}
use Rattle.solv_pool.specs.Prelude.{are_over}
use Rattle.solv_derive.proofs.checker.rules_within.Given as goal

abbrev pub invariant-loop-rule : goal.invariant-loop-rule
invariant-loop-rule l = are_over l.count (drop l.rule l.memory.rules) ≡ are_over l.count l.memory.rules
