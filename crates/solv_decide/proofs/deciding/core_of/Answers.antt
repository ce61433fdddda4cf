use Rattle.std.proofs.Common.{◌∙◌}
use Rattle.solv_pool.specs.Prelude.{catalog_of}
use Rattle.solv_rules.specs.Books.{read_rules}
use Rattle.solv_decide.proofs.Whole.{owner_each, few_are, all_over}
use Rattle.solv_decide.proofs.deciding.core_of.Goals as goal

pub new-requires-clause-each : goal.new-requires-clause-each
new-requires-clause-each c = owner_each (catalog_of c.args.task.now) (read_rules c.args.book.now.rules) c.memory.result.now.rules (c.memory.ensures ∙ c.requires.book.clauses) c.owners.result.now (c.owners.ensures ∙ c.requires.book.owners)

pub new-requires-clause-few : goal.new-requires-clause-few
new-requires-clause-few c = few_are (catalog_of c.args.task.now) (read_rules c.args.book.now.rules) c.memory.result.now.rules (c.memory.ensures ∙ c.requires.book.clauses) c.requires.fits

pub new-requires-clause-over : goal.new-requires-clause-over
new-requires-clause-over c = all_over (catalog_of c.args.task.now) (read_rules c.args.book.now.rules) c.memory.result.now.rules (c.memory.ensures ∙ c.requires.book.clauses) c.clauses_name_packages.ensures c.requires.bookable c.count.result c.count.ensures
