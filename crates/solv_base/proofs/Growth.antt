-- A pool only grows: what was held stays under its id.
use Rattle.std.proofs.Common.{◌≡◌, ℕ, zero, suc, ◌<◌, Bool, true, ◌&&◌, List, [], ◌∷◌, ◌++◌, length, Some, refl, sym, ap, ◌∙◌, arith, length-append}
use Rattle.std.specs.Prelude.{slice_get, nat_lt, unwrap_or}
use Rattle.std.specs.List.{list_all}
use borrow.Author.Tests.{ltb-true}
use Rattle.solv_base.specs.Dependency.{Dep, and, or, with, without, if_holds, unless_holds, joined, under, under_else, tree, tree_of_node, map_dep, names_in, operands, IsWellFounded}
use Rattle.solv_base.specs.Pool.{Held, HoldsNames, Grows, text_at, text_tree}
use Rattle.solv_base.specs.Inner.Pool.{text_tree_of_node}
use Rattle.solv_base.specs.declared.relation.DepNode.{DepNode}
use Rattle.solv_base.specs.declared.relation.DepNode.TheVariants.{Simple, Versioned, Namespace, And, Or, With, Without, If, IfElse, Unless, UnlessElse}
use Rattle.solv_base.proofs.Trees.{tree-is}
use Rattle.solv_base.proofs.Places.{before_end}
use Rattle.solv_list.proofs.Booleans.{first_of_both, second_of_both}

map_dep-node : (f : ℕ → List ℕ) (at : ℕ → Dep ℕ) (node : DepNode) → map_dep f (tree_of_node at node) ≡ text_tree_of_node f (λ o. map_dep f (at o)) node
map_dep-node f at (Simple n) = refl
map_dep-node f at (Versioned n c e) = refl
map_dep-node f at (Namespace n) = refl
map_dep-node f at (And a b) = refl
map_dep-node f at (Or a b) = refl
map_dep-node f at (With a b) = refl
map_dep-node f at (Without a b) = refl
map_dep-node f at (If a b) = refl
map_dep-node f at (IfElse a b c) = refl
map_dep-node f at (Unless a b) = refl
map_dep-node f at (UnlessElse a b c) = refl

-- the text tree of a relation is its node's, over its operands' text trees
pub text_tree-is : (held : Held) → IsWellFounded held.nodes → (id : ℕ) (node : DepNode) → slice_get held.nodes id ≡ Some node
    → text_tree held id ≡ text_tree_of_node (text_at held) (text_tree held) node
unfolding text_tree
text_tree-is held falls id node at = ap (map_dep (text_at held)) (tree-is held.nodes falls id node at) ∙ map_dep-node (text_at held) (tree held.nodes) node

module _ (f g : ℕ → List ℕ) (at bt : ℕ → Dep (List ℕ)) (low small : ℕ → Bool)
    (texts : (n : ℕ) → low n ≡ true → f n ≡ g n) (same : (o : ℕ) → small o ≡ true → at o ≡ bt o) where
  two : (h : Dep (List ℕ) → Dep (List ℕ) → Dep (List ℕ)) (a b : ℕ) → (small a && (small b && true)) ≡ true → h (at a) (at b) ≡ h (bt a) (bt b)
  two h a b e = rw (same a (first_of_both (small a) (small b && true) e), same b (first_of_both (small b) true (second_of_both (small a) (small b && true) e)))

  three : (h : Dep (List ℕ) → Dep (List ℕ) → Dep (List ℕ) → Dep (List ℕ)) (a b c : ℕ) → (small a && (small b && (small c && true))) ≡ true → h (at a) (at b) (at c) ≡ h (bt a) (bt b) (bt c)
  three h a b c e =
      let k = second_of_both (small a) (small b && (small c && true)) e in
      rw (same a (first_of_both (small a) (small b && (small c && true)) e), same b (first_of_both (small b) (small c && true) k), same c (first_of_both (small c) true (second_of_both (small b) (small c && true) k)))

  -- a node reads the same over texts and operands that are the same
  pub same-node : (node : DepNode) → list_all low (names_in node) ≡ true → list_all small (operands node) ≡ true → text_tree_of_node f at node ≡ text_tree_of_node g bt node
  same-node (Simple n) p q = rw (texts n (first_of_both (low n) true p)) refl
  same-node (Versioned n c e) p q = rw (texts n (first_of_both (low n) (low e && true) p), texts e (first_of_both (low e) true (second_of_both (low n) (low e && true) p))) refl
  same-node (Namespace n) p q = rw (texts n (first_of_both (low n) true p)) refl
  same-node (And a b) p q = two (joined and) a b q
  same-node (Or a b) p q = two (joined or) a b q
  same-node (With a b) p q = two (joined with) a b q
  same-node (Without a b) p q = two (joined without) a b q
  same-node (If a b) p q = two (under if_holds) a b q
  same-node (Unless a b) p q = two (under unless_holds) a b q
  same-node (IfElse a b c) p q = three (under_else if_holds) a b c q
  same-node (UnlessElse a b c) p q = three (under_else unless_holds) a b c q

module _ (old new : Held) (held : HoldsNames old) (falls : IsWellFounded old.nodes) (falls' : IsWellFounded new.nodes)
    (texts : (n : ℕ) → n < length old.names → text_at new n ≡ text_at old n)
    (nodes : (id : ℕ) → id < length old.nodes → slice_get new.nodes id ≡ slice_get old.nodes id) where
  node_there : (id : ℕ) → id < length old.nodes → (node : DepNode) × (slice_get old.nodes id ≡ Some node)
  node_there id h = some old.nodes id h
    where
      some : (xs : List DepNode) (k : ℕ) → k < length xs → (node : DepNode) × (slice_get xs k ≡ Some node)
      some [] k h = absurd (omega arith)
      some (x ∷ xs) zero h = (x, refl)
      some (x ∷ xs) (suc k) h = some xs k (omega arith)

  -- trees of ids below a bound stay
  trees_below : (bound id : ℕ) → id < bound → id < length old.nodes → text_tree new id ≡ text_tree old id
  trees_below zero id h k = absurd (omega arith)
  trees_below (suc bound) id h k =
      let node = (node_there id k).0 in
      let at : slice_get old.nodes id ≡ Some node = (node_there id k).1 in
      text_tree-is new falls' id node (nodes id k ∙ at)
      ∙ same-node (text_at new) (text_at old) (text_tree new) (text_tree old) (λ n. nat_lt n (length old.names)) (λ o. nat_lt o id)
      (λ n q. texts n (ltb-true n (length old.names) q))
      (λ o q. let below : o < id = ltb-true o id q in trees_below bound o (omega arith) (omega arith))
      node (held id node at) (falls id node at)
      ∙ sym (text_tree-is old falls id node at)

  pub trees_stay : (id : ℕ) → id < length old.nodes → text_tree new id ≡ text_tree old id
  trees_stay id h = trees_below (suc id) id (omega arith) h

-- with one more name
pub Grows-name : (names : List (List ℕ)) (nodes : List DepNode) (text : List ℕ) → HoldsNames (record { names = names; nodes = nodes }) → IsWellFounded nodes
    → Grows (record { names = names; nodes = nodes }) (record { names = names ++ text ∷ []; nodes = nodes })
Grows-name names nodes text held falls =
    let texts = λ (n : ℕ) (h : n < length names). ap (λ o. unwrap_or o []) (before_end names text n h) in
    record {
      names = omega (arith, length-append names (text ∷ []));
      nodes = omega arith;
      texts = texts;
      trees = trees_stay (record { names = names; nodes = nodes }) (record { names = names ++ text ∷ []; nodes = nodes }) held falls falls texts (λ id h. refl);
    }

pub Grows-itself : (held : Held) → Grows held held
Grows-itself held = record { names = omega arith; nodes = omega arith; texts = λ n h. refl; trees = λ id h. refl }
