-- A relation read as a tree.
use Rattle.std.proofs.Common.{◌≡◌, ℕ, zero, suc, ◌<◌, Bool, true, ◌&&◌, List, Option, Some, None, refl, ap, ◌∙◌, arith, add-one, ◌+◌}
use Rattle.std.specs.Prelude.{slice_get, nat_lt, unwrap_or, option_map}
use Rattle.std.specs.List.{list_all}
use borrow.Author.Tests.{ltb-true}
use Rattle.solv_base.specs.Dependency.{Dep, and, or, with, without, if_holds, unless_holds, joined, under, under_else, missing, tree_of_node, tree_within, tree, operands, IsWellFounded, capability_of_node}
use Rattle.solv_base.specs.declared.relation.DepNode.{DepNode}
use Rattle.solv_base.specs.declared.relation.DepNode.TheVariants.{Simple, Versioned, Namespace, And, Or, With, Without, If, IfElse, Unless, UnlessElse}
use Rattle.solv_list.proofs.Booleans.{first_of_both, second_of_both}
use Rattle.solv_base.specs.declared.comparison.Cmp.{Cmp}

module _ (at bt : ℕ → Dep ℕ) (small : ℕ → Bool) (same : (o : ℕ) → small o ≡ true → at o ≡ bt o) where
  first : (a : ℕ) (r : Bool) → (small a && r) ≡ true → at a ≡ bt a
  first a r h = same a (first_of_both (small a) r h)

  two : (f : Dep ℕ → Dep ℕ → Dep ℕ) (a b : ℕ) → (small a && (small b && true)) ≡ true → f (at a) (at b) ≡ f (bt a) (bt b)
  two f a b h = rw (first a (small b && true) h, first b true (second_of_both (small a) (small b && true) h))

  three : (f : Dep ℕ → Dep ℕ → Dep ℕ → Dep ℕ) (a b c : ℕ) → (small a && (small b && (small c && true))) ≡ true → f (at a) (at b) (at c) ≡ f (bt a) (bt b) (bt c)
  three f a b c h =
      let k = second_of_both (small a) (small b && (small c && true)) h in
      rw (first a (small b && (small c && true)) h, first b (small c && true) k, first c true (second_of_both (small b) (small c && true) k))

  pub same-node : (node : DepNode) → list_all small (operands node) ≡ true → tree_of_node at node ≡ tree_of_node bt node
  same-node (Simple n) h = refl
  same-node (Versioned n c e) h = refl
  same-node (Namespace n) h = refl
  same-node (And a b) h = two (joined and) a b h
  same-node (Or a b) h = two (joined or) a b h
  same-node (With a b) h = two (joined with) a b h
  same-node (Without a b) h = two (joined without) a b h
  same-node (If a b) h = two (under if_holds) a b h
  same-node (Unless a b) h = two (under unless_holds) a b h
  same-node (IfElse a b c) h = three (under_else if_holds) a b c h
  same-node (UnlessElse a b c) h = three (under_else unless_holds) a b c h

-- enough depth, and relations that are the same below n, give the same tree
pub same-tree : (xs ys : List DepNode) (n : ℕ) → ((k : ℕ) → k < n → slice_get xs k ≡ slice_get ys k) → IsWellFounded xs
    → (f g o : ℕ) → o < n → o < f → o < g → tree_within xs f o ≡ tree_within ys g o
same-tree xs ys n agree falls zero g o h k l = absurd (omega arith)
same-tree xs ys n agree falls (suc f) zero o h k l = absurd (omega arith)
same-tree xs ys n agree falls (suc f) (suc g) o h k l =
    step xs f g o (tree_within ys g) (λ p q. same-tree xs ys n agree falls f g p (omega arith) (omega arith) (omega arith)) (falls o) (slice_get xs o) refl
    ∙ ap (λ r. unwrap_or (option_map (tree_of_node (tree_within ys g)) r) missing) (agree o h)
  where
    step : (xs : List DepNode) (f g o : ℕ) (bt : ℕ → Dep ℕ) → ((p : ℕ) → p < o → tree_within xs f p ≡ bt p)
        → ((node : DepNode) → slice_get xs o ≡ Some node → list_all (λ p. nat_lt p o) (operands node) ≡ true)
        → (r : Option DepNode) → slice_get xs o ≡ r
        → unwrap_or (option_map (tree_of_node (tree_within xs f)) r) missing ≡ unwrap_or (option_map (tree_of_node bt) r) missing
    step xs f g o bt ih falls None e = refl
    step xs f g o bt ih falls (Some node) e = same-node (tree_within xs f) bt (λ p. nat_lt p o) (λ p q. ih p (ltb-true p o q)) node (falls node e)

-- the tree of a relation is its node's, with the operands' trees
pub tree-is : (nodes : List DepNode) → IsWellFounded nodes → (id : ℕ) (node : DepNode) → slice_get nodes id ≡ Some node → tree nodes id ≡ tree_of_node (tree nodes) node
tree-is nodes falls id node e =
    ap (λ depth. tree_within nodes depth id) (add-one id)
    ∙ ap (λ r. unwrap_or (option_map (tree_of_node (tree_within nodes id)) r) missing) e
    ∙ same-node (tree_within nodes id) (tree nodes) (λ p. nat_lt p id)
    (λ p q. let below : p < id = ltb-true p id q in same-tree nodes nodes id (λ k _. refl) falls id (p + 1) p below below (omega arith))
    node (falls id node e)

-- a relation that is no name, with or without a version, is no capability
pub no_capability : (node : DepNode) → ((n : ℕ) → node ≡ Simple n → ⊥) → ((n : ℕ) (c : Cmp) (e : ℕ) → node ≡ Versioned n c e → ⊥) → capability_of_node node ≡ None
no_capability (Simple n) h k = absurd (h n refl)
no_capability (Versioned n c e) h k = absurd (k n c e refl)
no_capability node h k = refl
