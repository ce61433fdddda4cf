-- What a pool holds is entered there as itself.
use Rattle.std.proofs.Common.{◌≡◌, ℕ, zero, suc, ◌<◌, Bool, true, false, List, [], ◌∷◌, length, slice_get, Some, Ok, refl, arith, nat_lt}
use Rattle.std.specs.List.{list_any, list_all, position_or_len}
use Rattle.std.specs.Str.{bytes_eq}
use Rattle.std.proofs.lemmas.Bool.{ltb-true}
use Rattle.solv_base.specs.contracts.relation.DepNodePartialEq.TheImpl.{eq-value}
use Rattle.solv_base.specs.declared.relation.DepNode.{DepNode}
use Rattle.solv_base.specs.declared.relation.DepNode.TheVariants.{Simple, Versioned, Namespace, And, Or, With, Without, If, IfElse, Unless, UnlessElse}
use Rattle.solv_base.specs.Dependency.{names_in, operands}
use Rattle.solv_base.specs.Pool.{Held, HasOneId, IsPool, text_at, text_tree}
use Rattle.solv_base.specs.Inner.Pool.{text_tree_of_node}
use Rattle.solv_base.proofs.Growth.{text_tree-is}
use Rattle.solv_base.proofs.Identity.{node_there}
use Rattle.solv_base.proofs.Places.{place_found, absent}
use Rattle.solv_base.proofs.Pools.{same_relation, relation_itself}
use Rattle.solv_deps.specs.Entering.{text_entered, relation_entered, dependency_entered}
use Rattle.solv_list.proofs.Booleans.{first_of_both, second_of_both}
use Rattle.solv_list.proofs.Lists.{bytes_themselves, same_bytes, place_within}
use Rattle.solv_deps.proofs.PartHeld.{some_at}

-- the place of a value that a list holds once
place_here : {X : Type 0} (eq : X → X → Bool) → ((x y : X) → eq x y ≡ true → x ≡ y) → ((x : X) → eq x x ≡ true)
    → (k : X) (xs : List X) (n : ℕ) → HasOneId xs → slice_get xs n ≡ Some k → (list_any (eq k) xs ≡ true) × (position_or_len (eq k) xs ≡ n)
place_here eq same itself k xs n once at =
    let found : list_any (eq k) xs ≡ true =
    elim (list_any (eq k) xs) as (λ b. list_any (eq k) xs ≡ b → list_any (eq k) xs ≡ true) [
      | true ↦ λ h. h
      | false ↦ λ h. absurd (absent eq itself k xs n h at)
    ] refl in
    (found, once (position_or_len (eq k) xs) n k (place_found eq same k xs (position_or_len (eq k) xs) refl (place_within (eq k) xs found)) at)

module _ (held : Held) (p : IsPool held) where
  text_there : (n : ℕ) → n < length held.names → text_entered (text_at held n) held ≡ Ok (record { id = n; held = held })
  text_there n l =
      let here = place_here bytes_eq same_bytes bytes_themselves (text_at held n) held.names n p.names_once (some_at held.names n [] l) in
      rw (here.0, here.1) refl

  relation_there : (id : ℕ) (node : DepNode) → slice_get held.nodes id ≡ Some node → relation_entered node held ≡ Ok (record { id = id; held = held })
  relation_there id node at =
      let here = place_here eq-value.it same_relation relation_itself node held.nodes id p.nodes_once at in
      rw (here.0, here.1) refl

  module _ (id : ℕ) (below : (o : ℕ) → o < id → dependency_entered (text_tree held o) held ≡ Ok (record { id = o; held = held })) where
    first : (o : ℕ) (os : List ℕ) → list_all (λ x. nat_lt x id) (o ∷ os) ≡ true → dependency_entered (text_tree held o) held ≡ Ok (record { id = o; held = held })
    first o os h = below o (ltb-true o id (first_of_both (nat_lt o id) (list_all (λ x. nat_lt x id) os) h))

    rest : (o : ℕ) (os : List ℕ) → list_all (λ x. nat_lt x id) (o ∷ os) ≡ true → list_all (λ x. nat_lt x id) os ≡ true
    rest o os h = second_of_both (nat_lt o id) (list_all (λ x. nat_lt x id) os) h

    text_first : (n : ℕ) (ns : List ℕ) → list_all (λ x. nat_lt x (length held.names)) (n ∷ ns) ≡ true → text_entered (text_at held n) held ≡ Ok (record { id = n; held = held })
    text_first n ns h = text_there n (ltb-true n (length held.names) (first_of_both (nat_lt n (length held.names)) (list_all (λ x. nat_lt x (length held.names)) ns) h))

    text_rest : (n : ℕ) (ns : List ℕ) → list_all (λ x. nat_lt x (length held.names)) (n ∷ ns) ≡ true → list_all (λ x. nat_lt x (length held.names)) ns ≡ true
    text_rest n ns h = second_of_both (nat_lt n (length held.names)) (list_all (λ x. nat_lt x (length held.names)) ns) h

    node_entered : (node : DepNode) → slice_get held.nodes id ≡ Some node
        → list_all (λ x. nat_lt x (length held.names)) (names_in node) ≡ true → list_all (λ x. nat_lt x id) (operands node) ≡ true
        → dependency_entered (text_tree_of_node (text_at held) (text_tree held) node) held ≡ Ok (record { id = id; held = held })
    node_entered (Simple n) at ns os = rw (text_first n [] ns) (relation_there id (Simple n) at)
    node_entered (Versioned n c e) at ns os = rw (text_first n (e ∷ []) ns, text_first e [] (text_rest n (e ∷ []) ns)) (relation_there id (Versioned n c e) at)
    node_entered (Namespace n) at ns os = rw (text_first n [] ns) (relation_there id (Namespace n) at)
    node_entered (And a b) at ns os = rw (first a (b ∷ []) os, first b [] (rest a (b ∷ []) os)) (relation_there id (And a b) at)
    node_entered (Or a b) at ns os = rw (first a (b ∷ []) os, first b [] (rest a (b ∷ []) os)) (relation_there id (Or a b) at)
    node_entered (With a b) at ns os = rw (first a (b ∷ []) os, first b [] (rest a (b ∷ []) os)) (relation_there id (With a b) at)
    node_entered (Without a b) at ns os = rw (first a (b ∷ []) os, first b [] (rest a (b ∷ []) os)) (relation_there id (Without a b) at)
    node_entered (If a b) at ns os = rw (first a (b ∷ []) os, first b [] (rest a (b ∷ []) os)) (relation_there id (If a b) at)
    node_entered (Unless a b) at ns os = rw (first a (b ∷ []) os, first b [] (rest a (b ∷ []) os)) (relation_there id (Unless a b) at)
    node_entered (IfElse a b c) at ns os =
        rw (first a (b ∷ c ∷ []) os, first b (c ∷ []) (rest a (b ∷ c ∷ []) os), first c [] (rest b (c ∷ []) (rest a (b ∷ c ∷ []) os))) (relation_there id (IfElse a b c) at)
    node_entered (UnlessElse a b c) at ns os =
        rw (first a (b ∷ c ∷ []) os, first b (c ∷ []) (rest a (b ∷ c ∷ []) os), first c [] (rest b (c ∷ []) (rest a (b ∷ c ∷ []) os))) (relation_there id (UnlessElse a b c) at)

  entered_below : (bound id : ℕ) → id < bound → id < length held.nodes → dependency_entered (text_tree held id) held ≡ Ok (record { id = id; held = held })
  entered_below zero id h l = absurd (omega arith)
  entered_below (suc bound) id h l =
      let node = (node_there held.nodes id l).0 in
      let at : slice_get held.nodes id ≡ Some node = (node_there held.nodes id l).1 in
      rw (text_tree-is held p.operands_before id node at)
      (node_entered id (λ o k. entered_below bound o (omega arith) (omega arith)) node at (p.names_held id node at) (p.operands_before id node at))

pub held_entered : (held : Held) (id : ℕ) → IsPool held → id < length held.nodes → dependency_entered (text_tree held id) held ≡ Ok (record { id = id; held = held })
held_entered held id p l = entered_below held p (suc id) id (omega arith) l
