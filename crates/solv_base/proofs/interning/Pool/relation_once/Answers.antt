use Rattle.std.proofs.Common.{◌≡◌, ◌∙◌, List, true, sym, ap, subst, length, slice_get, Some, ◌<◌}
use Rattle.solv_base.specs.Dependency.{tree, tree_of_node}
use Rattle.solv_base.specs.Pool.{Held, IsPool, most, text_at, text_tree}
use Rattle.solv_base.specs.Inner.Pool.{uses_below, text_tree_of_node}
use Rattle.solv_base.specs.declared.relation.DepNode.{DepNode}
use Rattle.solv_base.proofs.Entered.{pool_with_node, grows_with_node, node_there, tree_there, text_tree_there, with_new, with_held}
use Rattle.solv_base.proofs.interning.Pool.relation_once.Goals as goal
use Rattle.solv_base.proofs.interning.Pool.relation_once.Goals.{In_ok-place}

room : (c : In_ok-place) → length c.self.inside.relations < most
room c = rw (← c.self.view_is) at c.requires.room

uses : (c : In_ok-place) → uses_below (length c.self.inside.texts) (length c.self.inside.relations) c.args.node ≡ true
uses c = rw (← c.self.view_is) at c.requires.uses

pub invariant_of-self-2 : goal.invariant_of-self-2
invariant_of-self-2 c =
    let P : List DepNode → Type 0 = λ nodes. IsPool (record { names = c.self.inside.texts; nodes = nodes }) in
    subst P (sym c.in_ok-place.ensures.held) (pool_with_node c.self.inside.texts c.self.inside.relations c.args.node c.self.invariant (uses c) (room c))

pub returns-clause-id : goal.returns-clause-id
returns-clause-id c =
    let T : List DepNode → Type 0 = λ ns. c.in_ok-place.place < length ns → slice_get ns c.in_ok-place.place ≡ Some c.args.node in
    subst T (sym c.in_ok-place.ensures.held) (node_there c.self.inside.texts c.self.inside.relations c.args.node c.self.invariant (uses c) c.in_ok-place.place c.in_ok-place.ensures.place) c.in_ok-place.ensures.within

pub returns-clause-tree : goal.returns-clause-tree
returns-clause-tree c =
    let nodes = c.self.inside.relations in
    let T : List DepNode → Type 0 = λ ns. c.in_ok-place.place < length ns → tree ns c.in_ok-place.place ≡ tree_of_node (tree nodes) c.args.node in
    rw (← c.self.view_is) (subst T (sym c.in_ok-place.ensures.held) (tree_there c.self.inside.texts nodes c.args.node c.self.invariant (uses c) c.in_ok-place.place c.in_ok-place.ensures.place) c.in_ok-place.ensures.within)

pub returns-clause-text_tree : goal.returns-clause-text_tree
returns-clause-text_tree c =
    let names = c.self.inside.texts in
    let nodes = c.self.inside.relations in
    let T : List DepNode → Type 0 = λ ns. c.in_ok-place.place < length ns → text_tree (record { names = names; nodes = ns }) c.in_ok-place.place ≡ text_tree_of_node (text_at (record { names = names; nodes = nodes })) (text_tree (record { names = names; nodes = nodes })) c.args.node in
    rw (← c.self.view_is) (subst T (sym c.in_ok-place.ensures.held) (text_tree_there names nodes c.args.node c.self.invariant (uses c) c.in_ok-place.place c.in_ok-place.ensures.place) c.in_ok-place.ensures.within)

pub returns-clause-grows : goal.returns-clause-grows
returns-clause-grows c = rw (← c.self.view_is, c.in_ok-place.ensures.held) (grows_with_node c.self.inside.texts c.self.inside.relations c.args.node c.self.invariant (uses c))

pub returns-clause-known : goal.returns-clause-known
returns-clause-known c = rw (← c.self.view_is) (λ there.
    let R : List DepNode → Held = λ nodes. record { names = c.self.inside.texts; nodes = nodes } in
    ap R (c.in_ok-place.ensures.held ∙ with_held c.self.inside.relations c.args.node there))

pub returns-clause-added : goal.returns-clause-added
returns-clause-added c = rw (← c.self.view_is) (λ none.
    let R : List DepNode → Held = λ nodes. record { names = c.self.inside.texts; nodes = nodes } in
    ap R (c.in_ok-place.ensures.held ∙ with_new c.self.inside.relations c.args.node none))
