use Rattle.std.proofs.Common.{◌∙◌, ap, length, sym}
use Rattle.std.proofs.lemmas.List.{length-take-le}
use Rattle.solv_pool.specs.Prelude.{catalog_of}
use Rattle.solv_rules.specs.Books.{read_rules}
use Rattle.solv_answers.specs.Inner.Fronts.{front_rules}
use Rattle.solv_answers.proofs.Shared.{begins_with, front_read, reads_first}
use Rattle.solv_answers.proofs.preparing.begun_on.Goals as goal

pub returns : goal.returns
returns c =
    let catalog = catalog_of c.args.task.now in
    let made = front_rules catalog c.args.task.now.flags c.args.marks.now in
    let cut = c.front-rules.ensures in
    let has = c.requires.front in
    record {
      front = reads_first made c.args.book.rules c.front-rules.result.0 c.args.front has cut.list cut.sets;
      rules = sym (ap length cut.list ∙ length-take-le c.args.front.rules c.args.book.rules.list has.enough);
      sets = sym (ap length cut.sets ∙ length-take-le c.args.front.sets c.args.book.rules.sets has.enough_sets);
      draft = begins_with catalog made (read_rules c.args.book.rules) c.args.front.rules c.front-rules.result.1 (front_read made c.args.book.rules c.args.front has) (cut.clauses catalog c.requires.book c.requires.fits);
    }
