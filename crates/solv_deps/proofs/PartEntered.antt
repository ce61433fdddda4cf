-- What a pool holds is entered in a part of it, which stays a part: texts, and relations with all that is below them.
use Rattle.std.proofs.Common.{◌≡◌, ℕ, zero, suc, ◌<◌, true, false, ◌&&◌, List, [], ◌∷◌, length, slice_get, Some, Result, Ok, Err, refl, sym, ap, subst, ◌∙◌, arith, nat_lt, unwrap_or}
use Rattle.std.specs.Prelude.{IsOkAnd}
use Rattle.std.specs.List.{list_all}
use Rattle.std.specs.Str.{bytes_eq}
use Rattle.std.proofs.lemmas.Bool.{ltb-true, lt-ltb, and_from}
use Rattle.solv_base.specs.declared.comparison.Cmp.{Cmp}
use Rattle.solv_base.specs.declared.relation.DepNode.{DepNode}
use Rattle.solv_base.specs.declared.relation.DepNode.TheVariants.{Simple, Versioned, Namespace, And, Or, With, Without, If, IfElse, Unless, UnlessElse}
use Rattle.solv_base.specs.Dependency.{Dep, one, plain, versioned, namespace, and, or, with, without, if_holds, unless_holds, joined, under, under_else, names_in, operands}
use Rattle.solv_base.specs.Pool.{Held, is_name, name_id, IsPool, Grows, text_at, text_tree}
use Rattle.solv_base.specs.Inner.Pool.{text_tree_of_node, uses_below}
use Rattle.solv_base.proofs.Growth.{text_tree-is}
use Rattle.solv_base.proofs.Identity.{node_there}
use Rattle.solv_base.proofs.Places.{absent}
use Rattle.solv_base.proofs.Pools.{name_at}
use Rattle.solv_deps.specs.Entering.{Entered, text_entered, relation_entered, pair_entered, triple_entered, dependency_entered}
use Rattle.solv_deps.specs.Laws.{HeldIsEntered}
use Rattle.solv_deps.specs.Reading.{and_then}
use Rattle.solv_deps.specs.declared.fault.DepFault.{DepFault}
use Rattle.solv_list.proofs.Booleans.{first_of_both, second_of_both}
use Rattle.solv_list.proofs.Lists.{bytes_themselves}
use Rattle.solv_deps.specs.Parts.{HoldsTree, IsPart, IsEnteredText, IsEnteredTree, TextsOfTheWholeAreEntered, TreesOfTheWholeAreEntered}
use Rattle.solv_deps.proofs.PartHeld.{some_at, name_below, text_enters, node_enters}

pub then_ok : {A B : Type 0} (P : A → Type 0) (Q : B → Type 0) (r : Result A DepFault) (next : A → Result B DepFault) → IsOkAnd r P → ((x : A) → P x → IsOkAnd (next x) Q) → IsOkAnd (and_then r next) Q
then_ok P Q (Ok x) next h k = k x h
then_ok P Q (Err e) next h k = absurd h

ok_weaker : {A : Type 0} (P Q : A → Type 0) (r : Result A DepFault) → ((x : A) → P x → Q x) → IsOkAnd r P → IsOkAnd r Q
ok_weaker P Q (Ok x) k h = k x h
ok_weaker P Q (Err e) k h = absurd h

grows_on : (a b c : Held) → Grows a b → Grows b c → Grows a c
grows_on a b c g h =
    let n = g.names in let m = h.names in let o = g.nodes in let q = h.nodes in
    record {
      names = omega (arith, n, m);
      nodes = omega (arith, o, q);
      texts = λ k l. h.texts k (omega (arith, n, l)) ∙ g.texts k l;
      trees = λ k l. h.trees k (omega (arith, o, l)) ∙ g.trees k l;
    }

-- a held name is one
pub name_there : (names : List (List ℕ)) (n : ℕ) → n < length names → is_name names (unwrap_or (slice_get names n) []) ≡ true
name_there names n l =
    (elim (is_name names (unwrap_or (slice_get names n) [])) as (λ b. is_name names (unwrap_or (slice_get names n) []) ≡ b → b ≡ true) [
      | true ↦ λ e. refl
      | false ↦ λ e. absurd (absent bytes_eq bytes_themselves (unwrap_or (slice_get names n) []) names n e (some_at names n [] l))
    ]) refl

-- and entered as itself
text_there : (held : Held) (n : ℕ) → IsPool held → n < length held.names → text_entered (text_at held n) held ≡ Ok (record { id = n; held = held })
text_there held n p l =
    let here = name_there held.names n l in
    let id : name_id held.names (text_at held n) ≡ n
    = p.names_once (name_id held.names (text_at held n)) n (text_at held n) (name_at held.names (text_at held n) (name_id held.names (text_at held n)) refl (name_below held.names (text_at held n) here)) (some_at held.names n [] l) in
    rw (here, id) refl

text_once_more : (held : Held) (text : List ℕ) (n : ℕ) → IsPool held → n < length held.names → text_at held n ≡ text → text_entered text held ≡ Ok (record { id = n; held = held })
text_once_more held text n p l e = ap (λ t. text_entered t held) (sym e) ∙ text_there held n p l

module _ (again : HeldIsEntered) (whole : Held) (p : IsPool whole) where
  tree_once_more : (held : Held) (d : Dep (List ℕ)) (id : ℕ) → IsPool held → id < length held.nodes → text_tree held id ≡ d → dependency_entered d held ≡ Ok (record { id = id; held = held })
  tree_once_more held d id q l e = ap (λ t. dependency_entered t held) (sym e) ∙ again held id q l

  from_there : (old held : Held) (d : Dep (List ℕ)) → Grows old held → (e : Entered) → IsEnteredTree whole held d e → IsEnteredTree whole old d e
  from_there old held d g e i = record { part = i.part; grows = grows_on old held e.held g i.grows; below = i.below; is = i.is }

  -- this dependency can be entered in each part
  abbrev Enters : Dep (List ℕ) → Type 0
  Enters d = (part : Held) → IsPart part whole → IsOkAnd (dependency_entered d part) (IsEnteredTree whole part d)

  below_true : (x n : ℕ) → x < n → (nat_lt x n && true) ≡ true
  below_true x n l = and_from (nat_lt x n) true (lt-ltb x n l) refl

  -- a name alone
  module _ (g : ℕ → DepNode) (make : List ℕ → Dep (List ℕ))
      (entered : (t : List ℕ) (h : Held) → dependency_entered (make t) h ≡ and_then (text_entered t h) (λ n. relation_entered (g n.id) n.held))
      (uses : (x m n : ℕ) → (nat_lt x m && true) ≡ true → uses_below m n (g x) ≡ true)
      (tree : (f : ℕ → List ℕ) (at : ℕ → Dep (List ℕ)) (x : ℕ) → text_tree_of_node f at (g x) ≡ make (f x)) where
    name_enters : (t : List ℕ) → is_name whole.names t ≡ true → HoldsTree whole (make t) → Enters (make t)
    name_enters t is held part pt =
        rw (entered t part) (then_ok (IsEnteredText whole part t) (IsEnteredTree whole part (make t)) (text_entered t part) (λ n. relation_entered (g n.id) n.held) (text_enters whole p part pt t is)
        (λ x ix. ok_weaker (IsEnteredTree whole x.held (make t)) (IsEnteredTree whole part (make t)) (relation_entered (g x.id) x.held) (from_there part x.held (make t) ix.grows)
        (node_enters whole p again x.held ix.part (make t) held (g x.id) (uses x.id (length x.held.names) (length x.held.nodes) (below_true x.id (length x.held.names) ix.below))
        (tree (text_at x.held) (text_tree x.held) x.id ∙ ap make ix.is)
        (entered t x.held ∙ ap (λ r. and_then r (λ n. relation_entered (g n.id) n.held)) (text_once_more x.held t x.id ix.part.pool ix.below ix.is)))))

  -- a name with a comparison and an EVR
  compared_enters : (t v : List ℕ) (c : Cmp) → is_name whole.names t ≡ true → is_name whole.names v ≡ true → HoldsTree whole (one (versioned t c v)) → Enters (one (versioned t c v))
  compared_enters t v c is iv held part pt =
      let d : Dep (List ℕ) = one (versioned t c v) in
      then_ok (IsEnteredText whole part t) (IsEnteredTree whole part d) (text_entered t part) _ (text_enters whole p part pt t is)
      (λ x ix. then_ok (IsEnteredText whole x.held v) (IsEnteredTree whole part d) (text_entered v x.held) _ (text_enters whole p x.held ix.part v iv)
      (λ y iy.
      let names = iy.grows.names in
      let b = ix.below in
      let xb : x.id < length y.held.names = omega (arith, names, b) in
      let xt : text_at y.held x.id ≡ t = iy.grows.texts x.id b ∙ ix.is in
      let node : DepNode = Versioned x.id c y.id in
      let uses : uses_below (length y.held.names) (length y.held.nodes) node ≡ true =
      and_from (nat_lt x.id (length y.held.names) && (nat_lt y.id (length y.held.names) && true)) true (and_from (nat_lt x.id (length y.held.names)) _ (lt-ltb x.id (length y.held.names) xb) (below_true y.id (length y.held.names) iy.below)) refl in
      let tree : text_tree_of_node (text_at y.held) (text_tree y.held) node ≡ d = ap (λ s. one (versioned s c (text_at y.held y.id))) xt ∙ ap (λ s. one (versioned t c s)) iy.is in
      let enters : dependency_entered d y.held ≡ relation_entered node y.held =
      ap (λ r. and_then r (λ a. and_then (text_entered v a.held) (λ b. relation_entered (Versioned a.id c b.id) b.held))) (text_once_more y.held t x.id iy.part.pool xb xt)
      ∙ ap (λ r. and_then r (λ b. relation_entered (Versioned x.id c b.id) b.held)) (text_once_more y.held v y.id iy.part.pool iy.below iy.is) in
      ok_weaker (IsEnteredTree whole y.held d) (IsEnteredTree whole part d) (relation_entered node y.held) (from_there part y.held d (grows_on part x.held y.held ix.grows iy.grows))
      (node_enters whole p again y.held iy.part d held node uses tree enters)))

  -- two operands
  module _ (g : ℕ → ℕ → DepNode) (make : Dep (List ℕ) → Dep (List ℕ) → Dep (List ℕ))
      (entered : (a b : Dep (List ℕ)) (h : Held) → dependency_entered (make a b) h ≡ pair_entered (dependency_entered a) (dependency_entered b) g h)
      (uses : (x y m n : ℕ) → (nat_lt x n && (nat_lt y n && true)) ≡ true → uses_below m n (g x y) ≡ true)
      (tree : (f : ℕ → List ℕ) (at : ℕ → Dep (List ℕ)) (x y : ℕ) → text_tree_of_node f at (g x y) ≡ make (at x) (at y)) where
    pair_enters : (a b : Dep (List ℕ)) → HoldsTree whole (make a b) → Enters a → Enters b → Enters (make a b)
    pair_enters a b held ea eb part pt =
        let d : Dep (List ℕ) = make a b in
        rw (entered a b part) (then_ok (IsEnteredTree whole part a) (IsEnteredTree whole part d) (dependency_entered a part) _ (ea part pt)
        (λ x ix. then_ok (IsEnteredTree whole x.held b) (IsEnteredTree whole part d) (dependency_entered b x.held) _ (eb x.held ix.part)
        (λ y iy.
        let nodes = iy.grows.nodes in
        let below = ix.below in
        let xb : x.id < length y.held.nodes = omega (arith, nodes, below) in
        let xt : text_tree y.held x.id ≡ a = iy.grows.trees x.id below ∙ ix.is in
        let node : DepNode = g x.id y.id in
        let made : text_tree_of_node (text_at y.held) (text_tree y.held) node ≡ d =
        tree (text_at y.held) (text_tree y.held) x.id y.id ∙ ap (λ s. make s (text_tree y.held y.id)) xt ∙ ap (make a) iy.is in
        let enters : dependency_entered d y.held ≡ relation_entered node y.held =
        entered a b y.held
        ∙ ap (λ r. and_then r (λ u. and_then (dependency_entered b u.held) (λ v. relation_entered (g u.id v.id) v.held))) (tree_once_more y.held a x.id iy.part.pool xb xt)
        ∙ ap (λ r. and_then r (λ v. relation_entered (g x.id v.id) v.held)) (tree_once_more y.held b y.id iy.part.pool iy.below iy.is) in
        ok_weaker (IsEnteredTree whole y.held d) (IsEnteredTree whole part d) (relation_entered node y.held) (from_there part y.held d (grows_on part x.held y.held ix.grows iy.grows))
        (node_enters whole p again y.held iy.part d held node
        (uses x.id y.id (length y.held.names) (length y.held.nodes) (and_from (nat_lt x.id (length y.held.nodes)) _ (lt-ltb x.id (length y.held.nodes) xb) (below_true y.id (length y.held.nodes) iy.below)))
        made enters))))

  -- three operands
  module _ (g : ℕ → ℕ → ℕ → DepNode) (make : Dep (List ℕ) → Dep (List ℕ) → Dep (List ℕ) → Dep (List ℕ))
      (entered : (a b c : Dep (List ℕ)) (h : Held) → dependency_entered (make a b c) h ≡ triple_entered (dependency_entered a) (dependency_entered b) (dependency_entered c) g h)
      (uses : (x y z m n : ℕ) → (nat_lt x n && (nat_lt y n && (nat_lt z n && true))) ≡ true → uses_below m n (g x y z) ≡ true)
      (tree : (f : ℕ → List ℕ) (at : ℕ → Dep (List ℕ)) (x y z : ℕ) → text_tree_of_node f at (g x y z) ≡ make (at x) (at y) (at z)) where
    triple_enters : (a b c : Dep (List ℕ)) → HoldsTree whole (make a b c) → Enters a → Enters b → Enters c → Enters (make a b c)
    triple_enters a b c held ea eb ec part pt =
        let d : Dep (List ℕ) = make a b c in
        rw (entered a b c part) (then_ok (IsEnteredTree whole part a) (IsEnteredTree whole part d) (dependency_entered a part) _ (ea part pt)
        (λ x ix. then_ok (IsEnteredTree whole x.held b) (IsEnteredTree whole part d) (dependency_entered b x.held) _ (eb x.held ix.part)
        (λ y iy. then_ok (IsEnteredTree whole y.held c) (IsEnteredTree whole part d) (dependency_entered c y.held) _ (ec y.held iy.part)
        (λ z iz.
        let n1 = iy.grows.nodes in
        let n2 = iz.grows.nodes in
        let bx = ix.below in
        let by = iy.below in
        let xl : x.id < length y.held.nodes = omega (arith, n1, bx) in
        let xb : x.id < length z.held.nodes = omega (arith, n2, xl) in
        let yb : y.id < length z.held.nodes = omega (arith, n2, by) in
        let xt : text_tree z.held x.id ≡ a = iz.grows.trees x.id xl ∙ iy.grows.trees x.id bx ∙ ix.is in
        let yt : text_tree z.held y.id ≡ b = iz.grows.trees y.id by ∙ iy.is in
        let node : DepNode = g x.id y.id z.id in
        let made : text_tree_of_node (text_at z.held) (text_tree z.held) node ≡ d =
        tree (text_at z.held) (text_tree z.held) x.id y.id z.id ∙ ap (λ s. make s (text_tree z.held y.id) (text_tree z.held z.id)) xt ∙ ap (λ s. make a s (text_tree z.held z.id)) yt ∙ ap (make a b) iz.is in
        let enters : dependency_entered d z.held ≡ relation_entered node z.held =
        entered a b c z.held
        ∙ ap (λ r. and_then r (λ u. and_then (dependency_entered b u.held) (λ v. and_then (dependency_entered c v.held) (λ w. relation_entered (g u.id v.id w.id) w.held)))) (tree_once_more z.held a x.id iz.part.pool xb xt)
        ∙ ap (λ r. and_then r (λ v. and_then (dependency_entered c v.held) (λ w. relation_entered (g x.id v.id w.id) w.held))) (tree_once_more z.held b y.id iz.part.pool yb yt)
        ∙ ap (λ r. and_then r (λ w. relation_entered (g x.id y.id w.id) w.held)) (tree_once_more z.held c z.id iz.part.pool iz.below iz.is) in
        ok_weaker (IsEnteredTree whole z.held d) (IsEnteredTree whole part d) (relation_entered node z.held) (from_there part z.held d (grows_on part y.held z.held (grows_on part x.held y.held ix.grows iy.grows) iz.grows))
        (node_enters whole p again z.held iz.part d held node
        (uses x.id y.id z.id (length z.held.names) (length z.held.nodes)
        (and_from (nat_lt x.id (length z.held.nodes)) _ (lt-ltb x.id (length z.held.nodes) xb) (and_from (nat_lt y.id (length z.held.nodes)) _ (lt-ltb y.id (length z.held.nodes) yb) (below_true z.id (length z.held.nodes) iz.below))))
        made enters)))))

  module _ (id : ℕ) (l : id < length whole.nodes) (below : (o : ℕ) → o < id → Enters (text_tree whole o)) where
    first : (o : ℕ) (os : List ℕ) → list_all (λ x. nat_lt x id) (o ∷ os) ≡ true → Enters (text_tree whole o)
    first o os h = below o (ltb-true o id (first_of_both (nat_lt o id) (list_all (λ x. nat_lt x id) os) h))

    rest : (o : ℕ) (os : List ℕ) → list_all (λ x. nat_lt x id) (o ∷ os) ≡ true → list_all (λ x. nat_lt x id) os ≡ true
    rest o os h = second_of_both (nat_lt o id) (list_all (λ x. nat_lt x id) os) h

    first_name : (n : ℕ) (ns : List ℕ) → list_all (λ x. nat_lt x (length whole.names)) (n ∷ ns) ≡ true → is_name whole.names (text_at whole n) ≡ true
    first_name n ns h = name_there whole.names n (ltb-true n (length whole.names) (first_of_both (nat_lt n (length whole.names)) (list_all (λ x. nat_lt x (length whole.names)) ns) h))

    rest_names : (n : ℕ) (ns : List ℕ) → list_all (λ x. nat_lt x (length whole.names)) (n ∷ ns) ≡ true → list_all (λ x. nat_lt x (length whole.names)) ns ≡ true
    rest_names n ns h = second_of_both (nat_lt n (length whole.names)) (list_all (λ x. nat_lt x (length whole.names)) ns) h

    node_is_entered : (node : DepNode) → slice_get whole.nodes id ≡ Some node
        → list_all (λ x. nat_lt x (length whole.names)) (names_in node) ≡ true → list_all (λ x. nat_lt x id) (operands node) ≡ true
        → HoldsTree whole (text_tree_of_node (text_at whole) (text_tree whole) node) → Enters (text_tree_of_node (text_at whole) (text_tree whole) node)
    node_is_entered (Simple n) at ns os held = name_enters Simple (λ t. one (plain t)) (λ t h. refl) (λ x m n h. and_from (nat_lt x m && true) true h refl) (λ f at x. refl) (text_at whole n) (first_name n [] ns) held
    node_is_entered (Versioned n c e) at ns os held = compared_enters (text_at whole n) (text_at whole e) c (first_name n (e ∷ []) ns) (first_name e [] (rest_names n (e ∷ []) ns)) held
    node_is_entered (Namespace n) at ns os held = name_enters Namespace namespace (λ t h. refl) (λ x m n h. and_from (nat_lt x m && true) true h refl) (λ f at x. refl) (text_at whole n) (first_name n [] ns) held
    node_is_entered (And a b) at ns os held = pair_enters And (joined and) (λ a b h. refl) (λ x y m n h. h) (λ f at x y. refl) (text_tree whole a) (text_tree whole b) held (first a (b ∷ []) os) (first b [] (rest a (b ∷ []) os))
    node_is_entered (Or a b) at ns os held = pair_enters Or (joined or) (λ a b h. refl) (λ x y m n h. h) (λ f at x y. refl) (text_tree whole a) (text_tree whole b) held (first a (b ∷ []) os) (first b [] (rest a (b ∷ []) os))
    node_is_entered (With a b) at ns os held = pair_enters With (joined with) (λ a b h. refl) (λ x y m n h. h) (λ f at x y. refl) (text_tree whole a) (text_tree whole b) held (first a (b ∷ []) os) (first b [] (rest a (b ∷ []) os))
    node_is_entered (Without a b) at ns os held = pair_enters Without (joined without) (λ a b h. refl) (λ x y m n h. h) (λ f at x y. refl) (text_tree whole a) (text_tree whole b) held (first a (b ∷ []) os) (first b [] (rest a (b ∷ []) os))
    node_is_entered (If a b) at ns os held = pair_enters If (under if_holds) (λ a b h. refl) (λ x y m n h. h) (λ f at x y. refl) (text_tree whole a) (text_tree whole b) held (first a (b ∷ []) os) (first b [] (rest a (b ∷ []) os))
    node_is_entered (Unless a b) at ns os held = pair_enters Unless (under unless_holds) (λ a b h. refl) (λ x y m n h. h) (λ f at x y. refl) (text_tree whole a) (text_tree whole b) held (first a (b ∷ []) os) (first b [] (rest a (b ∷ []) os))
    node_is_entered (IfElse a b c) at ns os held =
        triple_enters IfElse (under_else if_holds) (λ a b c h. refl) (λ x y z m n h. h) (λ f at x y z. refl) (text_tree whole a) (text_tree whole b) (text_tree whole c) held
        (first a (b ∷ c ∷ []) os) (first b (c ∷ []) (rest a (b ∷ c ∷ []) os)) (first c [] (rest b (c ∷ []) (rest a (b ∷ c ∷ []) os)))
    node_is_entered (UnlessElse a b c) at ns os held =
        triple_enters UnlessElse (under_else unless_holds) (λ a b c h. refl) (λ x y z m n h. h) (λ f at x y z. refl) (text_tree whole a) (text_tree whole b) (text_tree whole c) held
        (first a (b ∷ c ∷ []) os) (first b (c ∷ []) (rest a (b ∷ c ∷ []) os)) (first c [] (rest b (c ∷ []) (rest a (b ∷ c ∷ []) os)))

  enters_below : (bound id : ℕ) → id < bound → id < length whole.nodes → Enters (text_tree whole id)
  enters_below zero id h l = absurd (omega arith)
  enters_below (suc bound) id h l =
      let node = (node_there whole.nodes id l).0 in
      let at : slice_get whole.nodes id ≡ Some node = (node_there whole.nodes id l).1 in
      let tree = text_tree-is whole p.operands_before id node at in
      subst Enters (sym tree)
      (node_is_entered id l (λ o k. enters_below bound o (omega (arith, h, k)) (omega (arith, l, k))) node at (p.names_held id node at) (p.operands_before id node at) (record { id = id; below = l; is = tree }))

pub texts_entered : TextsOfTheWholeAreEntered
texts_entered whole part text p is held = text_enters whole p part is text held

pub trees_entered : HeldIsEntered → TreesOfTheWholeAreEntered
trees_entered again whole part d p is held =
    subst (λ x. IsOkAnd (dependency_entered x part) (IsEnteredTree whole part x)) held.is (enters_below again whole p (suc held.id) held.id (omega arith) held.below part is)
