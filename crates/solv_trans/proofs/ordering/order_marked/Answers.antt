use Rattle.solv_pool.specs.Prelude.{catalog_of}
use Rattle.solv_trans.specs.Inner.Joining.{is_marked}
use Rattle.solv_trans.proofs.Whole.{within, starts, ends, ordered}
use Rattle.solv_trans.proofs.ordering.order_marked.Goals as goal

pub order_of_parts-requires-clause-parts : goal.order_of_parts-requires-clause-parts
order_of_parts-requires-clause-parts c = let parts = rw c.deref-2.ensures.value at c.in_ok-parts.ensures.parts in rw (c.deref-3.ensures.value, c.deref-4.ensures.value) parts

pub order_of_parts-requires-clause-within : goal.order_of_parts-requires-clause-within
order_of_parts-requires-clause-within c = rw c.deref-5.ensures.value (within (catalog_of c.args.task.now) (is_marked c.args.in_set.now) c.in_ok-turns.turns.items c.in_ok-turns.ensures c.in_ok-links.links.items c.in_ok-links.ensures)

pub order_of_parts-requires-clause-starts : goal.order_of_parts-requires-clause-starts
order_of_parts-requires-clause-starts c = rw (c.deref-4.ensures.value, c.deref-5.ensures.value) (starts (catalog_of c.args.task.now) (is_marked c.args.in_set.now) c.in_ok-turns.turns.items c.in_ok-turns.ensures c.in_ok-links.links.items c.in_ok-links.ensures)

pub order_of_parts-requires-clause-ends : goal.order_of_parts-requires-clause-ends
order_of_parts-requires-clause-ends c = rw (c.deref-4.ensures.value, c.deref-5.ensures.value) (ends (catalog_of c.args.task.now) (is_marked c.args.in_set.now) c.in_ok-turns.turns.items c.in_ok-turns.ensures c.in_ok-links.links.items c.in_ok-links.ensures)

pub returns : goal.returns
returns c =
    let made = rw (c.deref-4.ensures.value, c.deref-5.ensures.value) at c.in_ok-made.ensures in
    ordered (catalog_of c.args.task.now) (is_marked c.args.in_set.now) c.in_ok-turns.turns.items c.in_ok-turns.ensures c.in_ok-links.links.items c.in_ok-links.ensures c.in_ok-made.made made
