-- What a pool holds can be entered in a part of it.
use Rattle.std.proofs.Common.{◌≡◌, ℕ, zero, suc, ◌+◌, ◌==◌, ◌<◌, true, false, ◌||◌, List, [], ◌∷◌, ◌++◌, length, slice_get, Some, Result, Ok, Err, cond, ◌⊎◌, inl, inr, refl, sym, ap, ◌∙◌, arith, nat_lt, unwrap_or}
use Rattle.std.specs.Prelude.{IsOkAnd, if◌then◌else◌}
use Rattle.std.specs.Str.{bytes_eq}
use Rattle.std.proofs.lemmas.Bool.{ltb-true, lt-ltb}
use Rattle.std.proofs.lemmas.Bool.Decides.{nat_tests}
use Rattle.std.proofs.lemmas.List.{length-append}
use Rattle.indexmap.proofs.IndexTableLemmas.Probe.{Into, OneToOne, pigeonhole}
use Rattle.solv_base.specs.contracts.relation.DepNodePartialEq.TheImpl.{eq-value}
use Rattle.solv_base.specs.declared.relation.DepNode.{DepNode}
use Rattle.solv_base.specs.Dependency.{Dep}
use Rattle.solv_base.specs.Pool.{Held, most, is_name, name_id, IsPool, Grows, text_at, text_tree}
use Rattle.solv_base.specs.Inner.Pool.{text_tree_of_node, uses_below}
use Rattle.solv_base.proofs.Growth.{text_tree-is, Grows-name, Grows-itself}
use Rattle.solv_base.proofs.Identity.{texts_differ, trees_differ}
use Rattle.solv_base.proofs.Names.{id_of_new}
use Rattle.solv_base.proofs.Places.{place_found, absent}
use Rattle.solv_base.proofs.Pools.{same_relation, name_at, IsPool-name, IsPool-node, Grows-node, text_tree_of_new}
use Rattle.solv_deps.specs.Entering.{Entered, text_entered, relation_entered, dependency_entered}
use Rattle.solv_deps.specs.Inner.Entering.{is_relation, relation_id}
use Rattle.solv_deps.specs.Laws.{HeldIsEntered}
use Rattle.solv_deps.specs.declared.fault.DepFault.{DepFault}
use Rattle.solv_deps.specs.declared.fault.DepFault.TheVariants.{FullNames, FullRelations}
use Rattle.solv_list.proofs.Lists.{at_end, bytes_themselves, place_none, place_within}
use Rattle.solv_list.proofs.Numbers.{same_number, equal_to_itself}
use Rattle.solv_deps.specs.Parts.{HoldsTree, IsPart, IsEnteredText, IsEnteredTree}

-- one more than n numbers have places below m, all different: then m is more than n
put_last : (ℕ → ℕ) → ℕ → ℕ → ℕ → ℕ
put_last f n j k = cond (k == n) j (f k)

at_last : (f : ℕ → ℕ) (n j k : ℕ) → k ≡ n → put_last f n j k ≡ j
unfolding put_last
at_last f n j k e = rw (e, equal_to_itself n) refl

at_other : (f : ℕ → ℕ) (n j k : ℕ) → k < n → put_last f n j k ≡ f k
unfolding put_last
at_other f n j k h = let other : (k == n) ≡ false = grind (arith, nat_tests) in rw other refl

last_or_other : (n k : ℕ) → k < suc n → (k ≡ n) ⊎ (k < n)
last_or_other n k h =
    (elim (k == n) as (λ b. (k == n) ≡ b → (k ≡ n) ⊎ (k < n)) [
      | true ↦ λ e. inl (same_number k n e)
      | false ↦ λ e. inr (grind (arith, nat_tests))
    ]) refl

one_more : (n m j : ℕ) (f : ℕ → ℕ) → Into f n m → OneToOne f n → j < m → ((k : ℕ) → k < n → f k ≡ j → ⊥) → n < m
one_more n m j f into single below apart = omega (arith, pigeonhole (suc n) m (put_last f n j) into_more one_to_one)
  where
    into_more : Into (put_last f n j) (suc n) m
    into_more k h = elim (last_or_other n k h) [
      | inl e ↦ rw (at_last f n j k e) below
      | inr l ↦ rw (at_other f n j k l) (into k l)
    ]

    one_to_one : OneToOne (put_last f n j) (suc n)
    one_to_one a b h k e = elim (last_or_other n a h) [
      | inl p ↦ elim (last_or_other n b k) [
        | inl q ↦ p ∙ sym q
        | inr l ↦ absurd (apart b l (sym (at_other f n j b l) ∙ sym e ∙ at_last f n j a p))
      ]
      | inr l ↦ elim (last_or_other n b k) [
        | inl q ↦ absurd (apart a l (sym (at_other f n j a l) ∙ e ∙ at_last f n j b q))
        | inr m ↦ single a b l m (sym (at_other f n j a l) ∙ e ∙ at_other f n j b m)
      ]
    ]

pub some_at : {X : Type 0} (xs : List X) (k : ℕ) (d : X) → k < length xs → slice_get xs k ≡ Some (unwrap_or (slice_get xs k) d)
some_at [] k d h = absurd (omega arith)
some_at (x ∷ xs) zero d h = refl
some_at (x ∷ xs) (suc k) d h = some_at xs k d (omega arith)

-- the place of a name that is held
pub name_below : (names : List (List ℕ)) (text : List ℕ) → is_name names text ≡ true → name_id names text < length names
name_below names text h = place_within (bytes_eq text) names h

name_is : (held : Held) (text : List ℕ) → is_name held.names text ≡ true → text_at held (name_id held.names text) ≡ text
name_is held text h = ap (λ o. unwrap_or o []) (name_at held.names text (name_id held.names text) refl (name_below held.names text h))

module _ (whole : Held) (p : IsPool whole) where
  module _ (part : Held) (is : IsPart part whole) where
    abbrev place_of_name : ℕ → ℕ
    place_of_name k = name_id whole.names (text_at part k)

    names_into : Into place_of_name (length part.names) (length whole.names)
    names_into k h = name_below whole.names (text_at part k) (is.texts k h)

    names_apart : OneToOne place_of_name (length part.names)
    names_apart a b h k e =
        texts_differ part is.pool a b h k (sym (name_is whole (text_at part a) (is.texts a h)) ∙ ap (text_at whole) e ∙ name_is whole (text_at part b) (is.texts b k))

    -- a text of the whole that is new in the part has room there
    text_room : (text : List ℕ) → is_name whole.names text ≡ true → is_name part.names text ≡ false → length part.names < length whole.names
    text_room text held new =
        one_more (length part.names) (length whole.names) (name_id whole.names text) place_of_name names_into names_apart (name_below whole.names text held)
        (λ k h e.
        let same : text_at part k ≡ text = sym (name_is whole (text_at part k) (is.texts k h)) ∙ ap (text_at whole) e ∙ name_is whole text held in
        absent_name k h same)
      where
        absent_name : (k : ℕ) → k < length part.names → text_at part k ≡ text → ⊥
        absent_name k h same = absent bytes_eq bytes_themselves text part.names k new (some_at part.names k [] h ∙ ap Some same)

    held_text : (text : List ℕ) → is_name part.names text ≡ true → IsEnteredText whole part text (record { id = name_id part.names text; held = part })
    held_text text h = record { part = is; grows = Grows-itself part; below = name_below part.names text h; is = name_is part text h }

    new_text : (text : List ℕ) → is_name whole.names text ≡ true → is_name part.names text ≡ false
        → IsEnteredText whole part text (record { id = name_id part.names text; held = record { names = part.names ++ text ∷ []; nodes = part.nodes } })
    new_text text held new =
        let more : Held = record { names = part.names ++ text ∷ []; nodes = part.nodes } in
        let room : length part.names < length whole.names = text_room text held new in
        let fit = p.names_fit in
        let longer : length (part.names ++ text ∷ []) ≡ length part.names + 1 = length-append part.names (text ∷ []) in
        let last : name_id part.names text ≡ length part.names = id_of_new part.names text new in
        let grows : Grows part more = Grows-name part.names part.nodes text is.pool.names_held is.pool.operands_before in
        record {
          part = record {
            pool = IsPool-name part.names part.nodes text is.pool new (omega arith);
            texts = λ n h. elim (last_or_other (length part.names) n (omega (arith, h, longer))) [
              | inl e ↦ rw (e, at_end part.names text) held
              | inr l ↦ rw (grows.texts n l) (is.texts n l)
            ];
            trees = λ id h. let t = is.trees id h in record { id = t.id; below = t.below; is = t.is ∙ sym (grows.trees id h) };
          };
          grows = grows;
          below = omega (arith, last, longer);
          is = ap (text_at more) last ∙ ap (λ o. unwrap_or o []) (at_end part.names text);
        }

    pub text_enters : (text : List ℕ) → is_name whole.names text ≡ true → IsOkAnd (text_entered text part) (IsEnteredText whole part text)
    text_enters text held =
        (elim (is_name part.names text) as (λ b. is_name part.names text ≡ b → IsOkAnd (if b || nat_lt (length part.names) most then Ok (record { id = name_id part.names text; held = record part { names = if b then part.names else part.names ++ text ∷ [] } }) else Err FullNames) (IsEnteredText whole part text)) [
          | true ↦ λ e. held_text text e
          | false ↦ λ e. let fit = p.names_fit in let room = text_room text held e in let l : nat_lt (length part.names) most ≡ true = lt-ltb (length part.names) most (omega arith) in rw l (new_text text held e)
        ]) refl

  -- the id of a dependency in the whole
  id_of : Result Entered DepFault → ℕ
  id_of (Ok e) = e.id
  id_of (Err e) = 0

  module _ (again : HeldIsEntered) where
    abbrev place_of_tree : Dep (List ℕ) → ℕ
    place_of_tree d = id_of (dependency_entered d whole)

    tree_place : (d : Dep (List ℕ)) (t : HoldsTree whole d) → place_of_tree d ≡ t.id
    unfolding id_of
    tree_place d t = ap (λ x. id_of (dependency_entered x whole)) (sym t.is) ∙ ap id_of (again whole t.id p t.below)

    tree_below : (d : Dep (List ℕ)) → HoldsTree whole d → place_of_tree d < length whole.nodes
    tree_below d t = let b = t.below in let e = tree_place d t in omega (arith, b, e)

    tree_at : (d : Dep (List ℕ)) → HoldsTree whole d → text_tree whole (place_of_tree d) ≡ d
    tree_at d t = ap (text_tree whole) (tree_place d t) ∙ t.is

    module _ (part : Held) (is : IsPart part whole) where
      abbrev place_of_node : ℕ → ℕ
      place_of_node k = place_of_tree (text_tree part k)

      nodes_into : Into place_of_node (length part.nodes) (length whole.nodes)
      nodes_into k h = tree_below (text_tree part k) (is.trees k h)

      nodes_apart : OneToOne place_of_node (length part.nodes)
      nodes_apart a b h k e =
          trees_differ part is.pool a b h k (sym (tree_at (text_tree part a) (is.trees a h)) ∙ ap (text_tree whole) e ∙ tree_at (text_tree part b) (is.trees b k))

      -- a relation over what the part holds, whose tree the whole holds
      module _ (d : Dep (List ℕ)) (held : HoldsTree whole d) (node : DepNode) (uses : uses_below (length part.names) (length part.nodes) node ≡ true)
          (tree : text_tree_of_node (text_at part) (text_tree part) node ≡ d) (enters : dependency_entered d part ≡ relation_entered node part) where
        -- where there is no room, no relation of the part has the tree
        no_such : is_relation part.nodes node ≡ false → nat_lt (length part.nodes) most ≡ false → (k : ℕ) → k < length part.nodes → text_tree part k ≡ d → ⊥
        no_such new full k h e =
            let ok : relation_entered node part ≡ Ok (record { id = k; held = part }) = sym enters ∙ ap (λ x. dependency_entered x part) (sym e) ∙ again part k is.pool h in
            let refused : relation_entered node part ≡ Err FullRelations = rw (new, full) refl in
            absurd (let bad : Ok (record { id = k; held = part }) ≡ Err FullRelations = sym ok ∙ refused in cc)

        node_room : is_relation part.nodes node ≡ false → nat_lt (length part.nodes) most ≡ true
        node_room new =
            (elim (nat_lt (length part.nodes) most) as (λ b. nat_lt (length part.nodes) most ≡ b → b ≡ true) [
              | true ↦ λ e. refl
              | false ↦ λ e.
                  let less : length part.nodes < length whole.nodes =
                  one_more (length part.nodes) (length whole.nodes) (place_of_tree d) place_of_node nodes_into nodes_apart (tree_below d held)
                  (λ k h q. no_such new e k h (sym (tree_at (text_tree part k) (is.trees k h)) ∙ ap (text_tree whole) q ∙ tree_at d held)) in
                  let fit = p.nodes_fit in
                  absurd (let l : nat_lt (length part.nodes) most ≡ true = lt-ltb (length part.nodes) most (omega arith) in let bad : true ≡ false = sym l ∙ e in cc)
            ]) refl

        held_node : is_relation part.nodes node ≡ true → IsEnteredTree whole part d (record { id = relation_id part.nodes node; held = part })
        held_node h =
            let below : relation_id part.nodes node < length part.nodes = place_within (eq-value.it node) part.nodes h in
            let at : slice_get part.nodes (relation_id part.nodes node) ≡ Some node = place_found eq-value.it same_relation node part.nodes (relation_id part.nodes node) refl below in
            record { part = is; grows = Grows-itself part; below = below; is = text_tree-is part is.pool.operands_before (relation_id part.nodes node) node at ∙ tree }

        new_node : is_relation part.nodes node ≡ false → nat_lt (length part.nodes) most ≡ true
            → IsEnteredTree whole part d (record { id = relation_id part.nodes node; held = record { names = part.names; nodes = part.nodes ++ node ∷ [] } })
        new_node new room =
            let more : Held = record { names = part.names; nodes = part.nodes ++ node ∷ [] } in
            let longer : length (part.nodes ++ node ∷ []) ≡ length part.nodes + 1 = length-append part.nodes (node ∷ []) in
            let last : relation_id part.nodes node ≡ length part.nodes = place_none (eq-value.it node) part.nodes new in
            let grows : Grows part more = Grows-node part.names part.nodes node is.pool uses in
            let new_tree : text_tree more (length part.nodes) ≡ d = text_tree_of_new part.names part.nodes node is.pool uses ∙ tree in
            record {
              part = record {
                pool = IsPool-node part.names part.nodes node is.pool uses new (ltb-true (length part.nodes) most room);
                texts = is.texts;
                trees = λ id h. elim (last_or_other (length part.nodes) id (omega (arith, h, longer))) [
                  | inl e ↦ record { id = held.id; below = held.below; is = held.is ∙ sym new_tree ∙ ap (text_tree more) (sym e) }
                  | inr l ↦ let t = is.trees id l in record { id = t.id; below = t.below; is = t.is ∙ sym (grows.trees id l) }
                ];
              };
              grows = grows;
              below = omega (arith, last, longer);
              is = ap (text_tree more) last ∙ new_tree;
            }

        pub node_enters : IsOkAnd (relation_entered node part) (IsEnteredTree whole part d)
        node_enters =
            (elim (is_relation part.nodes node) as (λ b. is_relation part.nodes node ≡ b
            → IsOkAnd (if b || nat_lt (length part.nodes) most then Ok (record { id = relation_id part.nodes node; held = record part { nodes = if b then part.nodes else part.nodes ++ node ∷ [] } }) else Err FullRelations) (IsEnteredTree whole part d)) [
              | true ↦ λ e. held_node e
              | false ↦ λ e. rw (node_room e) (new_node e (node_room e))
            ]) refl
