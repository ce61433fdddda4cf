-- One more text, or one more relation, keeps what holds of every pool.
use Rattle.std.proofs.Common.{◌≡◌, ℕ, ◌<◌, ◌+◌, true, false, List, [], ◌∷◌, ◌++◌, length, Some, refl, ◌∙◌, arith, rules, length-append, inl, inr}
use Rattle.std.specs.Prelude.{slice_get, nat_lt}
use Rattle.std.specs.List.{list_all, list_any}
use Rattle.std.specs.Str.{bytes_eq}
use Rattle.std.proofs.lemmas.Bool.{ltb-true}
use Rattle.solv_base.specs.Dependency.{tree, tree_of_node, names_in, operands, IsWellFounded}
use Rattle.solv_base.specs.Pool.{Held, HoldsNames, IsPool, Grows, most, is_name, name_id, text_at, text_tree}
use Rattle.solv_base.specs.Inner.Hashing.{equal_nodes}
use Rattle.solv_base.specs.Inner.Pool.{text_tree_of_node, uses_below}
use Rattle.solv_base.specs.declared.relation.DepNode.{DepNode}
use Rattle.solv_base.specs.contracts.relation.DepNodePartialEq.TheImpl.{eq-value}
use Rattle.solv_base.proofs.Places.{at_place, before_end, place_found, absent, HasOneId_push}
use Rattle.solv_base.proofs.Trees.{tree-is, same-tree, same-node as same-tree-node}
use Rattle.solv_base.proofs.Growth.{text_tree-is, trees_stay, same-node}
use Rattle.solv_base.proofs.Identity.{all_held}
use Rattle.solv_list.proofs.Booleans.{first_of_both, second_of_both}
use Rattle.solv_list.proofs.Lists.{at_end, bytes_themselves, same_bytes}

pub same_relation : (x y : DepNode) → eq-value.it x y ≡ true → x ≡ y
same_relation = equal_nodes

pub relation_itself : (x : DepNode) → eq-value.it x x ≡ true
relation_itself x = search rules

-- the text at the place of a held name
pub name_at : (names : List (List ℕ)) (text : List ℕ) (i : ℕ) → i ≡ name_id names text → i < length names → slice_get names i ≡ Some text
name_at names text i e h = place_found bytes_eq same_bytes text names i e h

pub IsPool-name : (names : List (List ℕ)) (nodes : List DepNode) (text : List ℕ) → IsPool (record { names = names; nodes = nodes })
    → is_name names text ≡ false → length names < most → IsPool (record { names = names ++ text ∷ []; nodes = nodes })
IsPool-name names nodes text p fresh room =
    let longer : length (names ++ text ∷ []) ≡ length names + 1 = length-append names (text ∷ []) in
    record {
      names_once = HasOneId_push names text p.names_once (λ m at. absent bytes_eq bytes_themselves text names m fresh at);
      nodes_once = p.nodes_once;
      names_fit = omega arith;
      nodes_fit = p.nodes_fit;
      names_held = λ id node at. all_held (length names) (length (names ++ text ∷ [])) (omega arith) (names_in node) (p.names_held id node at);
      operands_before = p.operands_before;
    }

module _ (names : List (List ℕ)) (nodes : List DepNode) (node : DepNode) (p : IsPool (record { names = names; nodes = nodes }))
    (uses : uses_below (length names) (length nodes) node ≡ true) where
  uses_names : list_all (λ n. nat_lt n (length names)) (names_in node) ≡ true
  uses_names = first_of_both (list_all (λ n. nat_lt n (length names)) (names_in node)) (list_all (λ o. nat_lt o (length nodes)) (operands node)) uses

  uses_nodes : list_all (λ o. nat_lt o (length nodes)) (operands node) ≡ true
  uses_nodes = second_of_both (list_all (λ n. nat_lt n (length names)) (names_in node)) (list_all (λ o. nat_lt o (length nodes)) (operands node)) uses

  falls : IsWellFounded (nodes ++ node ∷ [])
  falls id other at =
      elim (at_place nodes node other id at) [
        | inl g ↦ p.operands_before id other g
        | inr g ↦ rw (g.0, ← g.1) uses_nodes
      ]

  names_there : HoldsNames (record { names = names; nodes = nodes ++ node ∷ [] })
  names_there id other at =
      elim (at_place nodes node other id at) [
        | inl g ↦ p.names_held id other g
        | inr g ↦ rw (← g.1) uses_names
      ]

  pub IsPool-node : list_any (eq-value.it node) nodes ≡ false → length nodes < most → IsPool (record { names = names; nodes = nodes ++ node ∷ [] })
  IsPool-node fresh room =
      let longer : length (nodes ++ node ∷ []) ≡ length nodes + 1 = length-append nodes (node ∷ []) in
      record {
        names_once = p.names_once;
        nodes_once = HasOneId_push nodes node p.nodes_once (λ m at. absent eq-value.it relation_itself node nodes m fresh at);
        names_fit = p.names_fit;
        nodes_fit = omega arith;
        names_held = names_there;
        operands_before = falls;
      }

  pub Grows-node : Grows (record { names = names; nodes = nodes }) (record { names = names; nodes = nodes ++ node ∷ [] })
  Grows-node =
      record {
        names = omega arith;
        nodes = omega (arith, length-append nodes (node ∷ []));
        texts = λ n h. refl;
        trees = trees_stay (record { names = names; nodes = nodes }) (record { names = names; nodes = nodes ++ node ∷ [] }) p.names_held p.operands_before falls
            (λ n h. refl) (λ id h. before_end nodes node id h);
      }

  -- the tree of the new relation
  pub tree_of_new : tree (nodes ++ node ∷ []) (length nodes) ≡ tree_of_node (tree nodes) node
  tree_of_new =
      tree-is (nodes ++ node ∷ []) falls (length nodes) node (at_end nodes node)
      ∙ same-tree-node (tree (nodes ++ node ∷ [])) (tree nodes) (λ o. nat_lt o (length nodes))
      (λ o q. let below : o < length nodes = ltb-true o (length nodes) q in
      same-tree (nodes ++ node ∷ []) nodes (length nodes) (λ k h. before_end nodes node k h) falls (o + 1) (o + 1) o below (omega arith) (omega arith))
      node uses_nodes

  pub text_tree_of_new : text_tree (record { names = names; nodes = nodes ++ node ∷ [] }) (length nodes)
      ≡ text_tree_of_node (text_at (record { names = names; nodes = nodes })) (text_tree (record { names = names; nodes = nodes })) node
  text_tree_of_new =
      let new : Held = record { names = names; nodes = nodes ++ node ∷ [] } in
      let now : Held = record { names = names; nodes = nodes } in
      text_tree-is new falls (length nodes) node (at_end nodes node)
      ∙ same-node (text_at new) (text_at now) (text_tree new) (text_tree now) (λ n. nat_lt n (length names)) (λ o. nat_lt o (length nodes))
      (λ n q. refl) (λ o q. Grows-node.trees o (ltb-true o (length nodes) q)) node uses_names uses_nodes

-- a held relation uses what is below it
pub uses-held : (held : Held) → IsPool held → (id : ℕ) (node : DepNode) → slice_get held.nodes id ≡ Some node → uses_below (length held.names) id node ≡ true
uses-held held p id node at = rw (p.names_held id node at) (p.operands_before id node at)
