use Rattle.solv_solved.proofs.ProvedProblems.{proved}
use Rattle.solv_solved.proofs.proving.answer_is_proved.Goals as goal

pub returns : goal.returns
returns c = proved c.problems_may_be_written.ensures c.problems_are_proved.ensures c.args.task.now c.args.budget c.args.answered.now.answer c.args.answered.now.ledger c.requires.good
