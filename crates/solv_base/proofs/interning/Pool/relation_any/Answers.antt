use Rattle.std.proofs.Common.{◌≡◌, ◌∙◌, sym, ap, refl, length, ◌++◌, ◌∷◌, [], ◌<◌, false, true, arith, Contains, slice_get, Some}
use Rattle.std.specs.List.{list_any}
use Rattle.std.proofs.lemmas.Grind.{common_steps}
use Rattle.indexmap.proofs.CallerLemmas.{Contains-list_any}
use Rattle.solv_base.specs.contracts.relation.DepNodePartialEq.TheImpl.{eq-value}
use Rattle.solv_base.specs.Pool.{IsPool, most}
use Rattle.solv_base.specs.Inner.Pool.{uses_below}
use Rattle.solv_base.proofs.Places.{if_ok, place_found}
use Rattle.solv_base.proofs.Growth.{text_tree-is}
use Rattle.solv_base.proofs.Trees.{tree-is}
use Rattle.solv_base.proofs.Pools.{same_relation, IsPool-node, Grows-node, tree_of_new, text_tree_of_new}
use Rattle.solv_base.proofs.interning.Pool.relation_any.Goals as goal
use Rattle.solv_base.proofs.interning.Pool.relation_any.Goals.{In-Some, Else-is_err}
use Rattle.solv_list.proofs.Lists.{at_end}

held : (c : In-Some) → Contains c.args.self.now.nodes c.args.node
held c = rw (← c.self.view_is) (Contains-list_any eq-value.it same_relation c.self.inside.relations c.args.node (sym c.in-Some.ensures.found))

found : (c : In-Some) → slice_get c.args.self.now.nodes c.in-Some.place ≡ Some c.args.node
found c =
    rw (← c.self.view_is) (place_found eq-value.it same_relation c.args.node c.self.inside.relations c.in-Some.place
    c.in-Some.ensures.place c.in-Some.ensures.within)

pool : (c : In-Some) → IsPool c.args.self.now
pool c = rw (← c.self.view_is) c.self.invariant

pub returns-in-Some-clause-id : goal.returns-in-Some-clause-id
returns-in-Some-clause-id c = found c

pub returns-in-Some-clause-added : goal.returns-in-Some-clause-added
returns-in-Some-clause-added c = λ fresh. absurd (fresh (held c))

pub returns-in-Some-clause-tree : goal.returns-in-Some-clause-tree
returns-in-Some-clause-tree c = tree-is c.args.self.now.nodes (pool c).operands_before c.in-Some.place c.args.node (found c)

pub returns-in-Some-clause-text_tree : goal.returns-in-Some-clause-text_tree
returns-in-Some-clause-text_tree c = text_tree-is c.args.self.now (pool c).operands_before c.in-Some.place c.args.node (found c)

pub returns-in-Some-clause-full : goal.returns-in-Some-clause-full
returns-in-Some-clause-full c = (λ e. cc, λ h. absurd (h.0 (held c)))

fresh : (c : Else-is_err) → list_any (eq-value.it c.args.node) c.self.inside.relations ≡ false
fresh c = grind (arith, common_steps)

pushed : (c : Else-is_err) → c.enter.new.self ≡ c.self.inside.relations ++ c.args.node ∷ []
pushed c =
    let held = if_ok _ c.enter.result (sym c.is_err.ensures.value ∙ c.if-is_err.false) c.enter.ensures.held in
    rw (held, fresh c) refl

uses : (c : Else-is_err) → uses_below (length c.self.inside.texts) (length c.self.inside.relations) c.args.node ≡ true
uses c = rw (← c.self.view_is) at c.requires

place : (c : Else-is_err) → length c.held-place.result.now ≡ length c.self.inside.relations
place c = ap length c.held-place.ensures

room : (c : Else-is_err) → length c.self.inside.relations < most
room c = let at = place c in omega arith

pub invariant_of-self-2 : goal.invariant_of-self-2
invariant_of-self-2 c = rw (pushed c) (IsPool-node c.self.inside.texts c.self.inside.relations c.args.node c.self.invariant (uses c) (fresh c) (room c))

pub returns-clause-id : goal.returns-clause-id
returns-clause-id c = rw (pushed c, place c) (at_end c.self.inside.relations c.args.node)

pub returns-clause-tree : goal.returns-clause-tree
returns-clause-tree c =
    rw (← c.self.view_is, pushed c, place c) (tree_of_new c.self.inside.texts c.self.inside.relations c.args.node c.self.invariant (uses c))

pub returns-clause-text_tree : goal.returns-clause-text_tree
returns-clause-text_tree c =
    rw (← c.self.view_is, pushed c, place c) (text_tree_of_new c.self.inside.texts c.self.inside.relations c.args.node c.self.invariant (uses c))

pub returns-clause-grows : goal.returns-clause-grows
returns-clause-grows c = rw (← c.self.view_is, pushed c) (Grows-node c.self.inside.texts c.self.inside.relations c.args.node c.self.invariant (uses c))
