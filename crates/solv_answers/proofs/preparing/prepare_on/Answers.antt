use Rattle.std.proofs.Common.{◌≡◌, ◌∙◌, List, None, ap, refl, subst, sym, true}
use Rattle.std.specs.List.{list_all}
use Rattle.solv_pool.specs.Prelude.{catalog_of, HardRule}
use Rattle.solv_pool.specs.declared.hard_rules.Rules.{Rules}
use Rattle.solv_rules.specs.Books.{first_fault, is_bookable, read_rules}
use Rattle.solv_answers.specs.Inner.Fronts.{HasFront, front_rules}
use Rattle.solv_answers.proofs.Shared.{begins_before, front_first, has_front, other_rules}
use Rattle.solv_answers.proofs.preparing.prepare_on.Goals as goal

pub make_on-requires-clause-begun : goal.make_on-requires-clause-begun
make_on-requires-clause-begun c =
    let task = c.args.task.now in
    let catalog = catalog_of task in
    begins_before catalog (front_rules catalog task.flags c.args.marks) (other_rules catalog task.flags task.jobs c.args.marks) (read_rules c.in-Ok.rules) c.args.begun.draft
    (c.in-Ok.ensures.made ∙ front_first catalog task.flags task.jobs c.args.marks) c.requires.begun.draft

pub returns-in-Ok-make_on-clause-booked : goal.returns-in-Ok-make_on-clause-booked
returns-in-Ok-make_on-clause-booked c =
    let task = c.args.task.now in
    let made = c.in-Ok.ensures.made in
    record {
      index = c.requires.index;
      flags = refl;
      marks_are = refl;
      book = c.in-Ok-make_on.ensures.book;
      rules = ap read_rules c.in-Ok-make_on.ensures.rules ∙ made;
      bookable = subst (λ (l : List HardRule). list_all (is_bookable (catalog_of task)) l ≡ true) made c.in-Ok.ensures.bookable.each;
      fits = subst (λ (l : List HardRule). first_fault (catalog_of task) 0 l ≡ None) made c.in-Ok-make_on.ensures.fits;
    }

pub returns-in-Ok-make_on-clause-goes_on : goal.returns-in-Ok-make_on-clause-goes_on
returns-in-Ok-make_on-clause-goes_on c =
    let task = c.args.task.now in
    let catalog = catalog_of task in
    let made = front_rules catalog task.flags c.args.marks in
    let begun = c.requires.begun in
    let same = c.in-Ok-make_on.ensures.rules in
    record {
      index = c.requires.index;
      book = c.in-Ok-make_on.ensures.book;
      fits = ap (λ (r : Rules). first_fault catalog 0 (read_rules r)) same ∙ c.in-Ok-make_on.ensures.fits;
      front = subst (λ (r : Rules). HasFront made r c.args.begun.front) (sym same)
          (has_front made c.args.begun.rules c.in-Ok.rules c.args.begun.front begun.front begun.rules begun.sets c.in-Ok.ensures.list c.in-Ok.ensures.sets);
      left = c.requires.left;
    }
