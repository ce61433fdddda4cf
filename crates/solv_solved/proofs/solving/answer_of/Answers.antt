use Rattle.solv_said.proofs.Forming.{asks_formed}
use Rattle.solv_solved.proofs.solving.answer_of.Goals as goal

pub prepare-requires-clause-formed : goal.prepare-requires-clause-formed
prepare-requires-clause-formed c = asks_formed c.args.task.now c.requires.forms
