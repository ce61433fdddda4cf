use Rattle.std.proofs.Common.{Option, subst}
use Rattle.std.specs.Prelude.{IfSome}
use Rattle.solv_answers.specs.Inner.Lean.{IsMade}
use Rattle.solv_answers.specs.Answers.{IsAnswered}
use Rattle.solv_answers.specs.declared.answers.Answered.{Answered}
use Rattle.solv_answers.specs.declared.preparing.Prepared.{Prepared}
use Rattle.solv_answers.proofs.Solved.{solved}
use Rattle.solv_answers.proofs.lean.answer_lean.Goals as goal

pub returns-in_ok-rules-in-Some-2-clause-direct : goal.returns-in_ok-rules-in-Some-2-clause-direct
returns-in_ok-rules-in-Some-2-clause-direct c =
    let task = c.args.task.now in
    let I : Option Prepared → Type 0 = λ o. IfSome o (IsMade task) in
    let is : IsMade task c.in-Some.prepared = subst I c.in-Some.is c.in_ok-prepared.ensures in
    let answered = c.in-Some-2.answered in
    let A : Option Answered → Type 0 = λ o. IfSome o (λ a. IsAnswered task c.args.budget a.answer a.ledger) in
    solved task c.questions_keep_the_law.ensures c.clauses_name_packages.ensures c.clauses_say_the_rule.ensures c.requires.formed is.all_bookable
    c.args.budget answered.answer answered.ledger (subst A c.in-Some-2.is c.in_ok-answered-2.ensures)
