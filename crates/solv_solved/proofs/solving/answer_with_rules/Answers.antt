use Rattle.solv_said.proofs.Forming.{asks_formed}
use Rattle.solv_solved.proofs.solving.answer_with_rules.Goals as goal

pub answer-requires-clause-formed : goal.answer-requires-clause-formed
answer-requires-clause-formed c = asks_formed c.args.task.now c.requires.forms
