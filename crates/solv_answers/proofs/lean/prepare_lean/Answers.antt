use Rattle.std.proofs.Common.{◌≡◌, ◌+◌, rules, true}
use Rattle.std.specs.Prelude.{nat_le}
use Rattle.solv_pool.specs.Prelude.{catalog_of, words_of_all}
use Rattle.solv_rules.specs.Books.{most_words}
use Rattle.solv_leaving.specs.Inner.Fitting.{words_left_out}
use Rattle.solv_answers.proofs.Made.{is_made}
use Rattle.solv_answers.proofs.lean.prepare_lean.Goals as goal

pub returns : goal.returns
returns c =
    let task = c.args.task.now in
    let few : nat_le (words_of_all c.in-Ok.prepared.book.clauses + words_left_out (catalog_of task) c.in-Ok.prepared.marks.left_out) most_words ≡ true = search rules in
    is_made task c.args.prov.now c.in-Ok.prepared c.args.marks c.hard_rules_are_bookable.ensures c.requires.closed.universe c.requires.index c.requires.formed
    c.all_rules_fit.ensures c.requires.left c.requires.each c.in-Ok.ensures.booked few
