use Rattle.std.proofs.Common.{None, subst, sym}
use Rattle.solv_answers.specs.Answers.{IsPrepared}
use Rattle.solv_answers.specs.declared.preparing.Prepared.{Prepared}
use Rattle.solv_answers.proofs.answering.answer_in_turn.Goals as goal

pub returns-clause-prepared : goal.returns-clause-prepared
returns-clause-prepared c =
    let K : Prepared → Type 0 = λ q. IsPrepared c.args.task.now q in
    let before = c.requires.prepared in
    let none : K (record c.args.prepared.now { left = None }) =
    record { index = before.index; flags = before.flags; marks = before.marks; each = before.each; book = before.book; rules = before.rules; bookable = before.bookable; fits = before.fits } in
    let taken : K c.take_left-left.new.prepared = subst K (sym c.take_left-left.ensures.prepared) none in
    record { index = taken.index; flags = taken.flags; marks = taken.marks; each = taken.each; book = taken.book; rules = taken.rules; bookable = taken.bookable; fits = taken.fits }
