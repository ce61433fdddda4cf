-- A relation that is entered, whether it is new or not.
use Rattle.std.proofs.Common.{◌≡◌, ◌<◌, ◌∙◌, ◌||◌, ◌+◌, ℕ, suc, Bool, true, false, not, cond, List, ◌∷◌, [], ◌++◌, Some, Contains, slice_get, length, inl, inr, refl, ap, arith}
use Rattle.std.specs.Prelude.{if◌then◌else◌}
use Rattle.std.proofs.lemmas.Bool.{cases_Bool}
use Rattle.std.proofs.lemmas.Option.{slice_get-get_or}
use Rattle.indexmap.proofs.CallerLemmas.{Contains-list_any}
use Rattle.solv_base.specs.Dependency.{tree, tree_of_node}
use Rattle.solv_base.specs.Inner.Pool.{is_node, node_id, with_node, uses_below, text_tree_of_node}
use Rattle.solv_base.specs.contracts.relation.DepNodePartialEq.TheImpl.{eq-value}
use Rattle.solv_base.specs.Pool.{IsPool, Grows, most, text_at, text_tree}
use Rattle.solv_base.specs.declared.relation.DepNode.{DepNode}
use Rattle.solv_base.proofs.Growth.{Grows-itself, text_tree-is}
use Rattle.solv_base.proofs.Places.{absent, place_found}
use Rattle.solv_base.proofs.Trees.{tree-is}
use Rattle.solv_base.proofs.Pools.{same_relation, relation_itself, IsPool-node, Grows-node, tree_of_new, text_tree_of_new}
use Rattle.solv_list.proofs.Lists.{at_end}

pub id_of_new_node : (nodes : List DepNode) (node : DepNode) → is_node nodes node ≡ false → node_id nodes node ≡ length nodes
id_of_new_node [] node h = refl
id_of_new_node (n ∷ nodes) node h = by (eq-value.it node n) h (id_of_new_node nodes node)
  where
    by : (b : Bool) → (b || is_node nodes node) ≡ false → (is_node nodes node ≡ false → node_id nodes node ≡ length nodes) → cond (not b) (1 + node_id nodes node) 0 ≡ suc (length nodes)
    by true e rest = cc
    by false e rest = rw (rest e) (omega arith)

module _ (names : List (List ℕ)) (nodes : List DepNode) (node : DepNode) (pool : IsPool (record { names = names; nodes = nodes })) (uses : uses_below (length names) (length nodes) node ≡ true) where
  either_node : (P : List DepNode → Type 0) → (is_node nodes node ≡ true → P nodes) → (is_node nodes node ≡ false → P (nodes ++ node ∷ [])) → P (with_node nodes node)
  either_node P held fresh = by (is_node nodes node) refl
    where
      by : (b : Bool) → is_node nodes node ≡ b → P (if b then nodes else nodes ++ node ∷ [])
      by true e = held e
      by false e = fresh e

  pub pool_with_node : length nodes < most → IsPool (record { names = names; nodes = with_node nodes node })
  pool_with_node room = either_node (λ ns. IsPool (record { names = names; nodes = ns })) (λ e. pool) (λ e. IsPool-node names nodes node pool uses e room)

  pub grows_with_node : Grows (record { names = names; nodes = nodes }) (record { names = names; nodes = with_node nodes node })
  grows_with_node = either_node (λ ns. Grows (record { names = names; nodes = nodes }) (record { names = names; nodes = ns })) (λ e. Grows-itself (record { names = names; nodes = nodes })) (λ e. Grows-node names nodes node pool uses)

  module _ (i : ℕ) (at : i ≡ node_id nodes node) where
    pub node_there : i < length (with_node nodes node) → slice_get (with_node nodes node) i ≡ Some node
    node_there = either_node (λ ns. i < length ns → slice_get ns i ≡ Some node) (λ e inside. place_found eq-value.it same_relation node nodes i at inside)
        (λ e inside. ap (slice_get (nodes ++ node ∷ [])) (at ∙ id_of_new_node nodes node e) ∙ at_end nodes node)

    pub tree_there : i < length (with_node nodes node) → tree (with_node nodes node) i ≡ tree_of_node (tree nodes) node
    tree_there = either_node (λ ns. i < length ns → tree ns i ≡ tree_of_node (tree nodes) node) (λ e inside. tree-is nodes pool.operands_before i node (place_found eq-value.it same_relation node nodes i at inside))
        (λ e inside. ap (tree (nodes ++ node ∷ [])) (at ∙ id_of_new_node nodes node e) ∙ tree_of_new names nodes node pool uses)

    pub text_tree_there : i < length (with_node nodes node)
        → text_tree (record { names = names; nodes = with_node nodes node }) i ≡ text_tree_of_node (text_at (record { names = names; nodes = nodes })) (text_tree (record { names = names; nodes = nodes })) node
    text_tree_there = either_node (λ ns. i < length ns → text_tree (record { names = names; nodes = ns }) i ≡ text_tree_of_node (text_at (record { names = names; nodes = nodes })) (text_tree (record { names = names; nodes = nodes })) node)
        (λ e inside. text_tree-is (record { names = names; nodes = nodes }) pool.operands_before i node (place_found eq-value.it same_relation node nodes i at inside))
        (λ e inside. ap (text_tree (record { names = names; nodes = nodes ++ node ∷ [] })) (at ∙ id_of_new_node nodes node e) ∙ text_tree_of_new names nodes node pool uses)

-- a relation is held where the test finds it
held_is : (nodes : List DepNode) (node : DepNode) → Contains nodes node → is_node nodes node ≡ true
held_is nodes node (k, few, same) = elim (cases_Bool (is_node nodes node)) [
  | inl e ↦ e
  | inr e ↦ absurd (absent eq-value.it relation_itself node nodes k e (slice_get-get_or nodes k node few ∙ ap Some same))
]

is_held : (nodes : List DepNode) (node : DepNode) → is_node nodes node ≡ true → Contains nodes node
is_held nodes node = Contains-list_any eq-value.it same_relation nodes node

pub with_new : (nodes : List DepNode) (node : DepNode) → (Contains nodes node → ⊥) → with_node nodes node ≡ nodes ++ node ∷ []
with_new nodes node none = elim (cases_Bool (is_node nodes node)) [
  | inl e ↦ absurd (none (is_held nodes node e))
  | inr e ↦ ap (λ b. if b then nodes else nodes ++ node ∷ []) e
]

pub with_held : (nodes : List DepNode) (node : DepNode) → Contains nodes node → with_node nodes node ≡ nodes
with_held nodes node there = ap (λ b. if b then nodes else nodes ++ node ∷ []) (held_is nodes node there)
