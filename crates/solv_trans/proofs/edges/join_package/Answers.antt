use Rattle.std.proofs.Common.{◌≡◌, ◌∙◌, ◌∷◌, [], sym, rules}
use Rattle.solv_pool.specs.Prelude.{catalog_of}
use Rattle.solv_graph.specs.Inner.Orders.{turn_at}
use Rattle.solv_graph.specs.declared.orders.Turn.TheVariants.{Never}
use Rattle.solv_trans.specs.Inner.Joining.{is_marked, owned_by}
use Rattle.solv_trans.proofs.Joined.{joins_none, joins_same}
use Rattle.solv_trans.proofs.Owned.{never_moves, nothing_owned}
use Rattle.solv_trans.proofs.edges.join_package.Goals as goal

pub returns-in-Never : goal.returns-in-Never
returns-in-Never c =
    let turn : turn_at c.args.turns.now c.args.pack ≡ Never = search rules in
    let never = never_moves (catalog_of c.args.task.now) (is_marked c.args.in_set.now) c.args.pack (sym (c.requires.turns.each c.args.pack c.requires.held) ∙ turn) in
    joins_same (owned_by (catalog_of c.args.task.now) (is_marked c.args.in_set.now)) (owned_by (catalog_of c.args.task.now) (is_marked c.args.in_set.now)) [] (c.args.pack ∷ []) c.args.links.now.items c.args.links.now.items
    (λ these a b. nothing_owned (catalog_of c.args.task.now) (is_marked c.args.in_set.now) c.args.pack never.0 never.1 these a b) (joins_none (owned_by (catalog_of c.args.task.now) (is_marked c.args.in_set.now)) c.args.links.now.items)
