use Rattle.solv_trans.proofs.Parted.{rising, is_held, own_within, own_starts, own_ends, ordered_parts}
use Rattle.solv_trans.proofs.ordering.order_of_parts.Goals as goal

pub graphs_of-requires-clause-rising : goal.graphs_of-requires-clause-rising
graphs_of-requires-clause-rising c = rising c.args.turns.now c.args.parts.now c.requires.parts

pub graphs_of-requires-clause-starts : goal.graphs_of-requires-clause-starts
graphs_of-requires-clause-starts c = λ a b h. is_held c.args.turns.now c.args.parts.now c.requires.parts a (c.requires.starts a b h)

pub graphs_of-requires-clause-ends : goal.graphs_of-requires-clause-ends
graphs_of-requires-clause-ends c = λ a b h. is_held c.args.turns.now c.args.parts.now c.requires.parts b (c.requires.ends a b h)

pub in_order-requires-clause-within : goal.in_order-requires-clause-within
in_order-requires-clause-within c = own_within c.args.turns.now c.args.parts.now c.requires.parts c.args.links.now c.requires.within c.requires.starts c.requires.ends c.in_ok-edges.edges c.in_ok-edges.ensures

pub in_order-requires-clause-starts : goal.in_order-requires-clause-starts
in_order-requires-clause-starts c =
    rw (c.deref.ensures.value, c.in_ok-own.ensures)
    (own_starts c.args.turns.now c.args.parts.now c.requires.parts c.args.links.now c.requires.within c.requires.starts c.requires.ends c.in_ok-edges.edges c.in_ok-edges.ensures)

pub in_order-requires-clause-ends : goal.in_order-requires-clause-ends
in_order-requires-clause-ends c =
    rw (c.deref.ensures.value, c.in_ok-own.ensures)
    (own_ends c.args.turns.now c.args.parts.now c.requires.parts c.args.links.now c.requires.within c.requires.starts c.requires.ends c.in_ok-edges.edges c.in_ok-edges.ensures)

pub returns : goal.returns
returns c =
    let made = rw (c.deref.ensures.value, c.in_ok-own.ensures) at c.in_ok-made.ensures in
    ordered_parts c.args.turns.now c.args.parts.now c.requires.parts c.args.links.now c.requires.within c.requires.starts c.requires.ends c.in_ok-edges.edges c.in_ok-edges.ensures c.in_ok-made.made made
