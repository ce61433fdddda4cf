use Rattle.solv_answers.proofs.Remedied.{learnt_solved}
use Rattle.solv_answers.proofs.answering.solved.Goals as goal

pub returns-clause-good : goal.returns-clause-good
returns-clause-good c = record {
  is = c.in_ok-answer.ensures.good;
  learnt = learnt_solved c.args.task.now c.args.left.now c.in_ok-answer.answer c.args.ledger c.requires.begun c.in_ok-answer.ensures.is c.requires.unspent;
}
