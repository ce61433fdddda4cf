use Rattle.std.proofs.Common.{◌≡◌, map}
use Rattle.solv_pool.specs.Prelude.{catalog_of, rule_with}
use Rattle.solv_rules.specs.Books.{spans_from}
use Rattle.solv_rules.proofs.Bookkeeping.{spans_each}
use Rattle.solv_rules.proofs.books.Book.make_on.Goals as goal

pub returns-in-Err-clause-fault : goal.returns-in-Err-clause-fault
returns-in-Err-clause-fault c = rw c.held-list.ensures at (rw c.held-sets.ensures at c.in-Err.ensures.err)

pub invariant_of-result : goal.invariant_of-result
invariant_of-result c =
    let spans : c.add_rules.new.draft.spans.items ≡ spans_from (catalog_of c.args.task.now) 0 (map (rule_with c.args.rules.sets) c.args.rules.list) = rw c.held-list.ensures at (rw c.held-sets.ensures at c.in-Ok.ensures.ok.spans) in
    (spans_each (catalog_of c.args.task.now) c.args.rules.list c.args.rules.sets c.add_rules.new.draft.spans.items spans, c.in-Ok.ensures.counted)
