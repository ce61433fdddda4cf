use Rattle.std.proofs.Common.{◌≡◌, drop, if◌then◌else◌}
use Rattle.solv_core_tests.specs.OnePackage.{says_none_in, says_one_in}
use Rattle.solv_core_tests.proofs.core_tests.says_one_in.Given as goal

abbrev pub invariant-loop-lit : goal.invariant-loop-lit
invariant-loop-lit l = (if l.met then says_none_in l.pack (drop l.lit-index l.clause) else says_one_in l.pack (drop l.lit-index l.clause)) ≡ says_one_in l.pack l.clause
