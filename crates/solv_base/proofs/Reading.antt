-- The tree of an id that is there has no part that is missing.
use Rattle.std.proofs.Common.{◌≡◌, ℕ, zero, suc, ◌<◌, ◌+◌, Bool, true, ◌&&◌, List, length, Some, refl, ap, ◌∙◌, arith}
use Rattle.std.specs.Prelude.{slice_get, nat_lt, unwrap_or, option_map}
use Rattle.std.specs.List.{list_all}
use Rattle.std.proofs.lemmas.Bool.{ltb-true}
use Rattle.solv_base.specs.Dependency.{Dep, missing, tree_within, tree_of_node, is_whole, operands, IsWellFounded}
use Rattle.solv_base.specs.RelationLaws.{ReadingEnds}
use Rattle.solv_base.specs.declared.relation.DepNode.{DepNode}
use Rattle.solv_base.specs.declared.relation.DepNode.TheVariants.{Simple, Versioned, Namespace, And, Or, With, Without, If, IfElse, Unless, UnlessElse}
use Rattle.solv_base.proofs.Identity.{node_there}
use Rattle.solv_list.proofs.Booleans.{first_of_both, second_of_both}

module _ (at : ℕ → Dep ℕ) (small : ℕ → Bool) (whole : (o : ℕ) → small o ≡ true → is_whole (at o) ≡ true) where
  two : (a b : ℕ) → (small a && (small b && true)) ≡ true → (is_whole (at a) && is_whole (at b)) ≡ true
  two a b h = rw (whole a (first_of_both (small a) (small b && true) h), whole b (first_of_both (small b) true (second_of_both (small a) (small b && true) h))) refl

  three : (a b c : ℕ) → (small a && (small b && (small c && true))) ≡ true → (is_whole (at a) && (is_whole (at b) && is_whole (at c))) ≡ true
  three a b c h =
      let k = second_of_both (small a) (small b && (small c && true)) h in
      rw (whole a (first_of_both (small a) (small b && (small c && true)) h), whole b (first_of_both (small b) (small c && true) k), whole c (first_of_both (small c) true (second_of_both (small b) (small c && true) k))) refl

  whole_node : (node : DepNode) → list_all small (operands node) ≡ true → is_whole (tree_of_node at node) ≡ true
  whole_node (Simple n) h = refl
  whole_node (Versioned n c e) h = refl
  whole_node (Namespace n) h = refl
  whole_node (And a b) h = two a b h
  whole_node (Or a b) h = two a b h
  whole_node (With a b) h = two a b h
  whole_node (Without a b) h = two a b h
  whole_node (If a b) h = two a b h
  whole_node (Unless a b) h = two a b h
  whole_node (IfElse a b c) h = three a b c h
  whole_node (UnlessElse a b c) h = three a b c h

whole_within : (nodes : List DepNode) → IsWellFounded nodes → (depth id : ℕ) → id < depth → id < length nodes → is_whole (tree_within nodes depth id) ≡ true
whole_within nodes falls zero id h k = absurd (omega arith)
whole_within nodes falls (suc depth) id h k =
    let node = (node_there nodes id k).0 in
    let there : slice_get nodes id ≡ Some node = (node_there nodes id k).1 in
    ap (λ o. is_whole (unwrap_or (option_map (tree_of_node (tree_within nodes depth)) o) missing)) there
    ∙ whole_node (tree_within nodes depth) (λ o. nat_lt o id)
    (λ o q. let below : o < id = ltb-true o id q in whole_within nodes falls depth o (omega arith) (omega arith))
    node (falls id node there)

pub reading_ends : ReadingEnds
reading_ends nodes falls id h = whole_within nodes falls (id + 1) id (omega arith) h
