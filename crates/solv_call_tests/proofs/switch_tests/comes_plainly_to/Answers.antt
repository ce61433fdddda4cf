use Rattle.std.proofs.Common.{ap}
use Rattle.solv_call_tests.proofs.switch_tests.comes_plainly_to.Goals as goal

pub run_plainly_on-requires-clause-core : goal.run_plainly_on-requires-clause-core
run_plainly_on-requires-clause-core c = ap (λ k. k.made) c.in_ok-core.ensures.core

pub run_plainly_on-requires-clause-held : goal.run_plainly_on-requires-clause-held
run_plainly_on-requires-clause-held c = c.in_ok-core.ensures.held c.new-ledger.result
