-- Texts and text trees that are equal have the same id.
use Rattle.std.proofs.Common.{◌≡◌, ℕ, zero, suc, ◌<◌, ◌≤◌, Bool, true, ◌&&◌, List, [], ◌∷◌, length, Some, refl, sym, ap, ◌∙◌, arith}
use Rattle.std.specs.Prelude.{slice_get, nat_lt, unwrap_or}
use Rattle.std.specs.List.{list_all}
use Rattle.std.proofs.lemmas.Bool.{ltb-true, lt-ltb}
use Rattle.solv_base.specs.Dependency.{Dep, names_in, operands}
use Rattle.solv_base.specs.Pool.{Held, IsPool, text_at, text_tree}
use Rattle.solv_base.specs.Inner.Pool.{text_tree_of_node}
use Rattle.solv_base.specs.declared.relation.DepNode.{DepNode}
use Rattle.solv_base.specs.declared.relation.DepNode.TheVariants.{Simple, Versioned, Namespace, And, Or, With, Without, If, IfElse, Unless, UnlessElse}
use Rattle.solv_base.proofs.Growth.{text_tree-is}
use Rattle.solv_list.proofs.Booleans.{first_of_both, second_of_both}

there : {X : Type 0} (xs : List X) (d : X) (k : ℕ) → k < length xs → slice_get xs k ≡ Some (unwrap_or (slice_get xs k) d)
there [] d k h = absurd (omega arith)
there (x ∷ xs) d zero h = refl
there (x ∷ xs) d (suc k) h = there xs d k (omega arith)

pub texts_differ : (held : Held) → IsPool held → (m n : ℕ) → m < length held.names → n < length held.names → text_at held m ≡ text_at held n → m ≡ n
texts_differ held p m n a b e =
    p.names_once m n (text_at held n) (there held.names [] m a ∙ ap Some e) (there held.names [] n b)

module _ (f : ℕ → List ℕ) (at : ℕ → Dep (List ℕ)) (low small held : ℕ → Bool)
    (texts : (m n : ℕ) → low m ≡ true → low n ≡ true → f m ≡ f n → m ≡ n)
    (trees : (a b : ℕ) → small a ≡ true → held b ≡ true → at a ≡ at b → a ≡ b) where
  one_of : (s : ℕ → Bool) (a : ℕ) (r : Bool) → (s a && r) ≡ true → s a ≡ true
  one_of s a r h = first_of_both (s a) r h

  rest_of : (s : ℕ → Bool) (a : ℕ) (r : Bool) → (s a && r) ≡ true → r ≡ true
  rest_of s a r h = second_of_both (s a) r h

  two : (g : ℕ → ℕ → DepNode) (a b c d : ℕ) → (small a && (small b && true)) ≡ true → (held c && (held d && true)) ≡ true → at a ≡ at c → at b ≡ at d → g a b ≡ g c d
  two g a b c d p q x y =
      rw (
        trees a c (one_of small a (small b && true) p) (one_of held c (held d && true) q) x,
        trees b d (one_of small b true (rest_of small a (small b && true) p)) (one_of held d true (rest_of held c (held d && true) q)) y,
      )

  three : (g : ℕ → ℕ → ℕ → DepNode) (a b c d e h : ℕ) → (small a && (small b && (small c && true))) ≡ true → (held d && (held e && (held h && true))) ≡ true
      → at a ≡ at d → at b ≡ at e → at c ≡ at h → g a b c ≡ g d e h
  three g a b c d e h p q x y z =
      let p' = rest_of small a (small b && (small c && true)) p in
      let q' = rest_of held d (held e && (held h && true)) q in
      rw (
        trees a d (one_of small a (small b && (small c && true)) p) (one_of held d (held e && (held h && true)) q) x,
        trees b e (one_of small b (small c && true) p') (one_of held e (held h && true) q') y,
        trees c h (one_of small c true (rest_of small b (small c && true) p')) (one_of held h true (rest_of held e (held h && true) q')) z,
      )

  -- two nodes that read the same are the same
  same_node : (x y : DepNode) → list_all low (names_in x) ≡ true → list_all low (names_in y) ≡ true → list_all small (operands x) ≡ true → list_all held (operands y) ≡ true
      → text_tree_of_node f at x ≡ text_tree_of_node f at y → x ≡ y
  same_node (Simple m) (Simple n) p q r s e = rw (texts m n (one_of low m true p) (one_of low n true q) (cc))
  same_node (Versioned m c v) (Versioned n d w) p q r s e =
      let same : c ≡ d = cc in
      rw (
        same,
        texts m n (one_of low m (low v && true) p) (one_of low n (low w && true) q) (cc),
        texts v w (one_of low v true (rest_of low m (low v && true) p)) (one_of low w true (rest_of low n (low w && true) q)) (cc),
      )
  same_node (Namespace m) (Namespace n) p q r s e = rw (texts m n (one_of low m true p) (one_of low n true q) (cc))
  same_node (And a b) (And c d) p q r s e = two And a b c d r s (cc) (cc)
  same_node (Or a b) (Or c d) p q r s e = two Or a b c d r s (cc) (cc)
  same_node (With a b) (With c d) p q r s e = two With a b c d r s (cc) (cc)
  same_node (Without a b) (Without c d) p q r s e = two Without a b c d r s (cc) (cc)
  same_node (If a b) (If c d) p q r s e = two If a b c d r s (cc) (cc)
  same_node (Unless a b) (Unless c d) p q r s e = two Unless a b c d r s (cc) (cc)
  same_node (IfElse a b c) (IfElse d e' h) p q r s e = three IfElse a b c d e' h r s (cc) (cc) (cc)
  same_node (UnlessElse a b c) (UnlessElse d e' h) p q r s e = three UnlessElse a b c d e' h r s (cc) (cc) (cc)
  same_node x y p q r s e = absurd (cc)

pub node_there : (xs : List DepNode) (k : ℕ) → k < length xs → (node : DepNode) × (slice_get xs k ≡ Some node)
node_there [] k h = absurd (omega arith)
node_there (x ∷ xs) zero h = (x, refl)
node_there (x ∷ xs) (suc k) h = node_there xs k (omega arith)

-- an operand of a held relation is held
pub all_held : (n m : ℕ) → n ≤ m → (xs : List ℕ) → list_all (λ x. nat_lt x n) xs ≡ true → list_all (λ x. nat_lt x m) xs ≡ true
all_held n m le [] h = refl
all_held n m le (x ∷ xs) h =
    let here : x < n = ltb-true x n (first_of_both (nat_lt x n) (list_all (λ y. nat_lt y n) xs) h) in
    rw (lt-ltb x m (omega arith)) (all_held n m le xs (second_of_both (nat_lt x n) (list_all (λ y. nat_lt y n) xs) h))

trees_differ_below : (held : Held) → IsPool held → (bound a b : ℕ) → a < bound → a < length held.nodes → b < length held.nodes → text_tree held a ≡ text_tree held b → a ≡ b
trees_differ_below held p zero a b h i j e = absurd (omega arith)
trees_differ_below held p (suc bound) a b h i j e =
    let x = (node_there held.nodes a i).0 in
    let y = (node_there held.nodes b j).0 in
    let at_a : slice_get held.nodes a ≡ Some x = (node_there held.nodes a i).1 in
    let at_b : slice_get held.nodes b ≡ Some y = (node_there held.nodes b j).1 in
    let same : x ≡ y = same_node (text_at held) (text_tree held) (λ n. nat_lt n (length held.names)) (λ o. nat_lt o a) (λ o. nat_lt o (length held.nodes))
    (λ m n r s t. texts_differ held p m n (ltb-true m (length held.names) r) (ltb-true n (length held.names) s) t)
    (λ o q r s t. let below : o < a = ltb-true o a r in trees_differ_below held p bound o q (omega arith) (omega arith) (ltb-true q (length held.nodes) s) t)
    x y (p.names_held a x at_a) (p.names_held b y at_b) (p.operands_before a x at_a)
    (all_held b (length held.nodes) (omega arith) (operands y) (p.operands_before b y at_b))
    (sym (text_tree-is held p.operands_before a x at_a) ∙ e ∙ text_tree-is held p.operands_before b y at_b) in
    p.nodes_once a b y (at_a ∙ ap Some same) at_b

pub trees_differ : (held : Held) → IsPool held → (a b : ℕ) → a < length held.nodes → b < length held.nodes → text_tree held a ≡ text_tree held b → a ≡ b
trees_differ held p a b h i e = trees_differ_below held p (suc a) a b (omega arith) h i e
