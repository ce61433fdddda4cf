use Rattle.std.proofs.Common.{◌≡◌, drop}
use Rattle.solv_core_tests.specs.OnePackage.{say_one_in}
use Rattle.solv_core_tests.proofs.core_tests.say_one_in.Given as goal

abbrev pub invariant-loop-rule : goal.invariant-loop-rule
invariant-loop-rule l = say_one_in l.pack (drop l.rule l.memory.rules) ≡ say_one_in l.pack l.memory.rules
