use Rattle.std.proofs.Common.{arith}
use Rattle.solv_pool.specs.Prelude.{IsClosed}
use Rattle.solv_pool.specs.TaskForms.{HasForms}
use Rattle.solv_rounds.proofs.Turned.{front_all}
use Rattle.solv_said.proofs.Forming.{asks_formed}
use Rattle.solv_run.proofs.lean.lean_due.Goals as goal

pub answer_lean-requires-clause-formed : goal.answer_lean-requires-clause-formed
answer_lean-requires-clause-formed c = asks_formed c.args.script.now.task (front_all HasForms c.args.script.now 0 (omega arith) c.requires.forms)

pub answer_due-requires-clause-closed : goal.answer_due-requires-clause-closed
answer_due-requires-clause-closed c = front_all IsClosed c.args.script.now 0 (omega arith) c.requires.closed
