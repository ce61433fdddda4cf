use Rattle.std.proofs.Common.{Bool, List, ap, refl, subst, sym, ◌∙◌}
use Rattle.std.specs.Prelude.{IfSome}
use Rattle.solv_core.specs.Inner.Running.{is_spent_verdict}
use Rattle.solv_pool.specs.Prelude.{catalog_of, marks_of}
use Rattle.solv_pool.specs.declared.job_marks.Marks.{Marks}
use Rattle.solv_decide.specs.Deciding.{IsRefuted, IsSolution}
use Rattle.solv_decide.specs.Inner.Rests.{IsRestFor}
use Rattle.solv_leaving.specs.Inner.Leaving.{LeavesOut}
use Rattle.solv_remedy.specs.Inner.Remedies.{IsMadeFor}
use Rattle.solv_answers.specs.Inner.Made.{IsAnsweredMade, all_made, made_core, made_request}
use Rattle.solv_answers.proofs.Decided.{found, made_for, refuted}
use Rattle.solv_answers.proofs.Remedied.{spent_first}
use Rattle.solv_answers.proofs.answering.by_decision.Goals as goal

pub solved-requires-clause-out : goal.solved-requires-clause-out
solved-requires-clause-out c =
    let task = c.args.task.now in
    let L : List Bool → Type 0 = λ l. LeavesOut (catalog_of task) task.flags task.jobs (marks_of task) l in
    subst L (sym c.held-out.ensures) c.requires.made.left.out

pub solved-requires-clause-found : goal.solved-requires-clause-found
solved-requires-clause-found c =
    let task = c.args.task.now in
    let S : List Bool → Type 0 = λ l. IsSolution (made_request task l) (all_made task l) c.in-Sat.trail in
    subst S (sym c.held-out.ensures) (found task c.args.prepared.now c.requires.made c.args.decided c.in-Sat.trail c.requires.decided c.in-Sat.is)

pub problems_of-requires-clause-made : goal.problems_of-requires-clause-made
problems_of-requires-clause-made c =
    let task = c.args.task.now in
    let M : List Bool → Type 0 = λ l. IsMadeFor (made_request task l) c.args.decided.phases c.args.decided.core.made c.args.prepared.now.book in
    subst M (sym c.held-out.ensures) (made_for task c.args.prepared.now c.requires.made c.args.decided c.requires.decided)

pub problems_of-requires-clause-refuted : goal.problems_of-requires-clause-refuted
problems_of-requires-clause-refuted c =
    let task = c.args.task.now in
    let R : List Bool → Type 0 = λ l. IsRefuted (made_request task l) (all_made task l) (made_core task l) c.in-Unsat.log in
    subst R (sym c.held-out.ensures) (refuted task c.args.prepared.now c.requires.made c.args.decided c.in-Unsat.log c.requires.decided c.in-Unsat.is)

pub returns-in_ok-answered-in-Sat-clause-good : goal.returns-in_ok-answered-in-Sat-clause-good
returns-in_ok-answered-in-Sat-clause-good c =
    let answered = c.in_ok-answered-in-Sat.answered in
    let A : List Bool → Type 0 = λ l. IsAnsweredMade c.args.task.now l c.args.decided.ledger.budget answered.answer answered.ledger in
    subst A c.held-out.ensures c.in_ok-answered-in-Sat.ensures.good

pub returns-in_ok-answered-in-Sat-clause-left : goal.returns-in_ok-answered-in-Sat-clause-left
returns-in_ok-answered-in-Sat-clause-left c =
    let task = c.args.task.now in
    let L : Marks → Type 0 = λ m. IfSome c.left_for_next-left.result (IsRestFor (catalog_of task) task.flags m) in
    subst L (sym c.requires.made.left.marks_are) (c.left_for_next-left.ensures (made_request task c.args.prepared.now.marks.left_out) c.args.decided.core.made c.requires.decided.asked)

pub returns-in_ok-answered-in-Unsat-clause-good : goal.returns-in_ok-answered-in-Unsat-clause-good
returns-in_ok-answered-in-Unsat-clause-good c =
    let answered = c.in_ok-answered-in-Unsat.answered in
    let A : List Bool → Type 0 = λ l. IsAnsweredMade c.args.task.now l c.args.decided.ledger.budget answered.answer answered.ledger in
    subst A c.held-out.ensures c.in_ok-answered-in-Unsat.ensures.answered

pub returns-in_ok-answered-in-Unsat-clause-left : goal.returns-in_ok-answered-in-Unsat-clause-left
returns-in_ok-answered-in-Unsat-clause-left c =
    let task = c.args.task.now in
    let L : Marks → Type 0 = λ m. IfSome c.left_for_next-left-in-Unsat.result (IsRestFor (catalog_of task) task.flags m) in
    subst L (sym c.requires.made.left.marks_are) (c.left_for_next-left-in-Unsat.ensures (made_request task c.args.prepared.now.marks.left_out) c.args.decided.core.made c.requires.decided.asked)

pub returns-in-Spent-clause-good : goal.returns-in-Spent-clause-good
returns-in-Spent-clause-good c =
    spent_first c.args.task.now c.args.prepared.now.marks.left_out c.args.decided.ledger.budget c.args.decided.ledger c.requires.decided.begun refl (sym (ap is_spent_verdict c.in-Spent.is) ∙ c.requires.decided.spent)
