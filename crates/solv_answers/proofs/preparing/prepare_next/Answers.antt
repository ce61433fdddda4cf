use Rattle.std.proofs.Common.{◌∙◌, List, ap, subst, sym}
use Rattle.solv_pool.specs.Prelude.{catalog_of, HardRule}
use Rattle.solv_rules.specs.Books.{IsBook, Written, first_fault, read_rules}
use Rattle.solv_answers.specs.Inner.Fronts.{HasFront, front_rules}
use Rattle.solv_answers.proofs.Shared.{front_alike, left_serves, prepared_if}
use Rattle.solv_answers.proofs.preparing.prepare_next.Goals as goal

pub begun_on-begun-requires-clause-book : goal.begun_on-begun-requires-clause-book
begun_on-begun-requires-clause-book c = subst (λ (b : Written). IsBook (catalog_of c.args.task.now) b) (sym c.into_parts-book.ensures.book) c.requires.before.book

pub begun_on-begun-requires-clause-fits : goal.begun_on-begun-requires-clause-fits
begun_on-begun-requires-clause-fits c = ap (λ (b : Written). first_fault (catalog_of c.args.task.now) 0 (read_rules b.rules)) c.into_parts-book.ensures.book ∙ c.requires.before.fits

pub begun_on-begun-requires-clause-front : goal.begun_on-begun-requires-clause-front
begun_on-begun-requires-clause-front c =
    let three = c.has_front.ensures c.if-has_front.true in
    let same = front_alike (catalog_of c.args.task.now) c.args.before.flags c.args.task.now.flags c.args.before.marks c.in-Ok.marks three.0 three.1 three.2 three.3 in
    subst (λ (b : Written). HasFront (front_rules (catalog_of c.args.task.now) c.args.task.now.flags c.in-Ok.marks) b.rules c.args.before.front) (sym c.into_parts-book.ensures.book)
    (subst (λ (l : List HardRule). HasFront l c.args.before.book.rules c.args.before.front) same c.requires.before.front)

pub prepare_on-requires-clause-left : goal.prepare_on-requires-clause-left
prepare_on-requires-clause-left c =
    left_serves (catalog_of c.args.task.now) c.are_alike-alike.result c.args.before.flags c.args.task.now.flags c.args.before.marks c.in-Ok.marks c.args.before.left c.left_where-left.result
    c.are_alike-alike.ensures (λ e. c.left_where-left.ensures.some e ∙ c.into_parts-book.ensures.left) c.left_where-left.ensures.none c.requires.before.left

pub returns-then-has_front-clause-prepared : goal.returns-then-has_front-clause-prepared
returns-then-has_front-clause-prepared c = prepared_if c.args.task.now c.in-Ok.marks c.prepare_on.result c.in-Ok.ensures.exact c.in-Ok.ensures.each c.prepare_on.ensures.booked
