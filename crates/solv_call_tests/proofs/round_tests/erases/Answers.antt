use Rattle.solv_pool.specs.TaskForms.{HasForms}
use Rattle.solv_said.proofs.Forming.{asks_formed}
use Rattle.solv_script.proofs.FinishedRounds.{first_closed, first_of}
use Rattle.solv_call_tests.proofs.round_tests.erases.Goals as goal

pub make_ready-requires-clause-closed : goal.make_ready-requires-clause-closed
make_ready-requires-clause-closed c = first_closed c.in_ok-script.script c.in_ok-script.ensures.closed

pub make_ready-requires-clause-formed : goal.make_ready-requires-clause-formed
make_ready-requires-clause-formed c = asks_formed c.in_ok-script.script.task (first_of HasForms c.in_ok-script.script c.in_ok-script.ensures.forms)
