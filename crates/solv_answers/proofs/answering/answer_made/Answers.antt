use Rattle.std.proofs.Common.{ℕ, subst}
use Rattle.std.specs.Prelude.{IfOk}
use Rattle.solv_answers.specs.Inner.Made.{IsAnsweredMade}
use Rattle.solv_answers.proofs.Decided.{has_decided}
use Rattle.solv_answers.proofs.answering.answer_made.Goals as goal

pub by_decision-requires-clause-decided : goal.by_decision-requires-clause-decided
by_decision-requires-clause-decided c =
    let e = c.in_ok-decided.ensures in
    has_decided c.args.task.now c.args.prepared.now c.requires.made c.args.budget c.in_ok-decided.decided e.budget e.few e.asked e.held e.core e.run e.good e.spent e.decided

pub returns-clause-good : goal.returns-clause-good
returns-clause-good c =
    subst (λ (n : ℕ). IfOk c.by_decision.result (λ given. IsAnsweredMade c.args.task.now c.args.prepared.now.marks.left_out n given.answered.answer given.answered.ledger)) c.in_ok-decided.ensures.budget c.by_decision.ensures.good
