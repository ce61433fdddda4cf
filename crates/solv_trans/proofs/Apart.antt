-- The edges that an order keeps.
use Rattle.std.proofs.Common.{◌≡◌, ℕ, ◌<◌, Bool, true, false, not, ◌&&◌, ◌||◌, List, [], ◌∷◌, ◌++◌, length, ◌⊎◌, inl, inr, refl, sym, ap, ◌∙◌, subst, arith, eqb, eq-eqb}
use Rattle.std.specs.Prelude.{slice_index}
use Rattle.std.specs.List.{list_any, range_with_len}
use Rattle.std.proofs.lemmas.Bool.{and_parts, and_from, false≢true, eqb-true, false_from_ne_true, or_left, or_right}
use Rattle.solv_graph.specs.Walks.{is_walk, end_of, Leads, InOneClass}
use Rattle.solv_graph.specs.Graphs.{is_in, row}
use Rattle.solv_graph.specs.Inner.Graphs.{edge_to}
use Rattle.solv_graph.specs.Inner.Classes.{TellClasses}
use Rattle.solv_graph.specs.Inner.Orders.{waits_in}
use Rattle.solv_graph.specs.Orders.{IsGoodOrder}
use Rattle.solv_trans.specs.Orders.{MustPrecede, a_pre_edge, another_edge}
use Rattle.solv_trans.specs.Inner.Joining.{apart}
use Rattle.solv_graph.proofs.Numbered.{edge_bound}
use Rattle.solv_list.proofs.Booleans.{or_cases, or_false, same_truth}
use Rattle.solv_pool.proofs.Among.{any_from, any_gives}
use Rattle.solv_prov.proofs.Obsoleting.{among_range}

module _ (marks : List ℕ) (rows : List (List ℕ)) (a b : ℕ) where
  abbrev differ : Bool
  differ = not (eqb (slice_index marks a) (slice_index marks b))

  -- the edges of a row
  pub row_apart : (from : ℕ) (next : List ℕ) → next ≡ row rows from
      → list_any (λ q. eqb from a && (eqb q b && not (eqb (slice_index marks a) (slice_index marks b)))) next ≡ list_any (λ p. eqb p a && apart marks rows a b) (from ∷ [])
  row_apart from next e = same_truth _ _ to back
    where
      to : list_any (λ q. eqb from a && (eqb q b && not (eqb (slice_index marks a) (slice_index marks b)))) next ≡ true → list_any (λ p. eqb p a && apart marks rows a b) (from ∷ []) ≡ true
      to h =
          let r = any_gives (λ q. eqb from a && (eqb q b && not (eqb (slice_index marks a) (slice_index marks b)))) next h in
          let one = and_parts (eqb from a) (eqb r.0 b && not (eqb (slice_index marks a) (slice_index marks b))) r.2 in
          let two = and_parts (eqb r.0 b) (not (eqb (slice_index marks a) (slice_index marks b))) one.1 in
          let held : is_in next b ≡ true = ap (is_in next) (sym (eqb-true r.0 b two.0)) ∙ r.1 in
          let edge : edge_to rows a b ≡ true = ap (λ x. is_in (row rows x) b) (sym (eqb-true from a one.0)) ∙ ap (λ l. is_in l b) (sym e) ∙ held in
          or_left _ false (and_from (eqb from a) (apart marks rows a b) one.0 (and_from (edge_to rows a b) (not (eqb (slice_index marks a) (slice_index marks b))) edge two.1))

      back : list_any (λ p. eqb p a && apart marks rows a b) (from ∷ []) ≡ true → list_any (λ q. eqb from a && (eqb q b && not (eqb (slice_index marks a) (slice_index marks b)))) next ≡ true
      back h =
          let k : (eqb from a && apart marks rows a b) ≡ true = sym (or_false (eqb from a && apart marks rows a b)) ∙ h in
          let one = and_parts (eqb from a) (apart marks rows a b) k in
          let two = and_parts (edge_to rows a b) (not (eqb (slice_index marks a) (slice_index marks b))) one.1 in
          let held : is_in next b ≡ true = ap (λ l. is_in l b) e ∙ ap (λ x. is_in (row rows x) b) (eqb-true from a one.0) ∙ two.0 in
          any_from (λ q. eqb from a && (eqb q b && not (eqb (slice_index marks a) (slice_index marks b)))) next b held
          (and_from (eqb from a) (eqb b b && not (eqb (slice_index marks a) (slice_index marks b))) one.0 (and_from (eqb b b) (not (eqb (slice_index marks a) (slice_index marks b))) (eq-eqb b b refl) two.1))

  -- those of all rows
  pub all_apart : (n : ℕ) → length rows ≡ n → list_any (λ p. eqb p a && apart marks rows a b) (range_with_len 0 n) ≡ apart marks rows a b
  all_apart n size = same_truth _ _ to back
    where
      to : list_any (λ p. eqb p a && apart marks rows a b) (range_with_len 0 n) ≡ true → apart marks rows a b ≡ true
      to h = let r = any_gives (λ p. eqb p a && apart marks rows a b) (range_with_len 0 n) h in (and_parts (eqb r.0 a) (apart marks rows a b) r.2).1

      back : apart marks rows a b ≡ true → list_any (λ p. eqb p a && apart marks rows a b) (range_with_len 0 n) ≡ true
      back h =
          let edge = (and_parts (edge_to rows a b) (not (eqb (slice_index marks a) (slice_index marks b))) h).0 in
          any_from (λ p. eqb p a && apart marks rows a b) (range_with_len 0 n) a (among_range 0 n a (omega arith) (omega (arith, edge_bound rows a b edge, size))) (and_from (eqb a a) (apart marks rows a b) (eq-eqb a a refl) h)

-- walks
module _ (edge : ℕ → ℕ → Bool) where
  walk_append : (p : ℕ) (v w : List ℕ) → is_walk edge p v ≡ true → is_walk edge (end_of p v) w ≡ true → is_walk edge p (v ++ w) ≡ true
  walk_append p [] w h k = k
  walk_append p (q ∷ v) w h k =
      let both = and_parts (edge p q) (is_walk edge q v) h in
      and_from (edge p q) (is_walk edge q (v ++ w)) both.0 (walk_append q v w both.1 k)

  end_append : (p : ℕ) (v w : List ℕ) → end_of p (v ++ w) ≡ end_of (end_of p v) w
  end_append p [] w = refl
  end_append p (q ∷ v) w = end_append q v w

  leads_step : (p q : ℕ) → edge p q ≡ true → Leads edge p q
  leads_step p q h = record { over = q ∷ []; is = and_from (edge p q) true h refl; ends = refl }

  leads_through : (p q r : ℕ) → Leads edge p q → Leads edge q r → Leads edge p r
  leads_through p q r a b =
      let on : is_walk edge (end_of p a.over) b.over ≡ true = ap (λ x. is_walk edge x b.over) a.ends ∙ b.is in
      record { over = a.over ++ b.over; is = walk_append p a.over b.over a.is on; ends = end_append p a.over b.over ∙ ap (λ x. end_of x b.over) a.ends ∙ b.ends }

module _ (all pre counting : List (List ℕ)) (n : ℕ) (marks pre_marks : List ℕ) (size : length all ≡ n) (pre_size : length pre ≡ n) (tells : TellClasses (edge_to all) n marks) (tells_pre : TellClasses (edge_to pre) n pre_marks)
    (within : (p q : ℕ) → edge_to pre p q ≡ true → edge_to all p q ≡ true) (ends : (p q : ℕ) → edge_to all p q ≡ true → q < n)
    (joined : (a b : ℕ) → edge_to counting a b ≡ (apart marks all a b || apart pre_marks pre a b)) where
  not_same : (ms : List ℕ) (p q : ℕ) → not (eqb (slice_index ms p) (slice_index ms q)) ≡ true → slice_index ms p ≡ slice_index ms q → ⊥
  not_same ms p q h e = false≢true (sym (ap not (eq-eqb (slice_index ms p) (slice_index ms q) e)) ∙ h)

  two_kinds : (p q : ℕ) → edge_to counting p q ≡ true
      → ((edge_to all p q ≡ true) × (not (eqb (slice_index marks p) (slice_index marks q)) ≡ true)) ⊎ ((edge_to pre p q ≡ true) × (not (eqb (slice_index pre_marks p) (slice_index pre_marks q)) ≡ true))
  two_kinds p q h = elim (or_cases (apart marks all p q) (apart pre_marks pre p q) (sym (joined p q) ∙ h)) [
    | inl k ↦ inl (and_parts (edge_to all p q) (not (eqb (slice_index marks p) (slice_index marks q))) k)
    | inr k ↦ inr (and_parts (edge_to pre p q) (not (eqb (slice_index pre_marks p) (slice_index pre_marks q))) k)
  ]

  -- a counting edge is an edge
  pub counts_edge : (p q : ℕ) → edge_to counting p q ≡ true → edge_to all p q ≡ true
  counts_edge p q h = elim (two_kinds p q h) [ inl k ↦ k.0 | inr k ↦ within p q k.0 ]

  start_bound : (p q : ℕ) → edge_to all p q ≡ true → p < n
  start_bound p q h = omega (arith, edge_bound all p q h, size)

  -- a counting edge within a class is a pre edge
  counts_pre : (p q : ℕ) → edge_to counting p q ≡ true → InOneClass (edge_to all) p q → (edge_to pre p q ≡ true) × (not (eqb (slice_index pre_marks p) (slice_index pre_marks q)) ≡ true)
  counts_pre p q h c = elim (two_kinds p q h) [
    | inl k ↦ absurd (not_same marks p q k.1 (tells.whole p q (start_bound p q k.0) (ends p q k.0) c))
    | inr k ↦ k
  ]

  edges : (p : ℕ) (w : List ℕ) → is_walk (edge_to counting) p w ≡ true → is_walk (edge_to all) p w ≡ true
  edges p [] h = refl
  edges p (q ∷ w) h =
      let both = and_parts (edge_to counting p q) (is_walk (edge_to counting) q w) h in
      and_from (edge_to all p q) (is_walk (edge_to all) q w) (counts_edge p q both.0) (edges q w both.1)

  -- a walk of counting edges whose end leads back to its start is one of pre edges
  pres : (p : ℕ) (w : List ℕ) → is_walk (edge_to counting) p w ≡ true → Leads (edge_to all) (end_of p w) p → is_walk (edge_to pre) p w ≡ true
  pres p [] h back = refl
  pres p (q ∷ w) h back =
      let both = and_parts (edge_to counting p q) (is_walk (edge_to counting) q w) h in
      let step : Leads (edge_to all) p q = leads_step (edge_to all) p q (counts_edge p q both.0) in
      let on : Leads (edge_to all) q (end_of q w) = record { over = w; is = edges q w both.1; ends = refl } in
      let q_back : Leads (edge_to all) q p = leads_through (edge_to all) q (end_of q w) p on back in
      let k = counts_pre p q both.0 (record { there = step; back = q_back }) in
      and_from (edge_to pre p q) (is_walk (edge_to pre) q w) k.0 (pres q w both.1 (leads_through (edge_to all) (end_of q w) p q back step))

  -- there is no cycle of counting edges
  pub no_cycle : (p q : ℕ) → edge_to counting p q ≡ true → Leads (edge_to counting) q p → ⊥
  no_cycle p q h l =
      let step : Leads (edge_to all) p q = leads_step (edge_to all) p q (counts_edge p q h) in
      let on : Leads (edge_to all) q p = record { over = l.over; is = edges q l.over l.is; ends = l.ends } in
      let k = counts_pre p q h (record { there = step; back = on }) in
      let back : Leads (edge_to all) (end_of q l.over) q = subst (λ (x : ℕ). Leads (edge_to all) x q) (sym l.ends) step in
      let on_pre : Leads (edge_to pre) q p = record { over = l.over; is = pres q l.over l.is back; ends = l.ends } in
      not_same pre_marks p q k.1
      (tells_pre.whole p q (start_bound p q (counts_edge p q h)) (ends p q (counts_edge p q h)) (record { there = leads_step (edge_to pre) p q k.0; back = on_pre }))

  differ_from : (ms : List ℕ) (p q : ℕ) → (slice_index ms p ≡ slice_index ms q → ⊥) → not (eqb (slice_index ms p) (slice_index ms q)) ≡ true
  differ_from ms p q h = ap not (false_from_ne_true (eqb (slice_index ms p) (slice_index ms q)) (λ e. h (eqb-true (slice_index ms p) (slice_index ms q) e)))

  -- the graph has exactly the edges that count
  counted : (p q : ℕ) → MustPrecede (edge_to all) (edge_to pre) p q → edge_to counting p q ≡ true
  counted p q (a_pre_edge e out) =
      joined p q
      ∙ or_right (apart marks all p q) (apart pre_marks pre p q)
      (and_from (edge_to pre p q) (not (eqb (slice_index pre_marks p) (slice_index pre_marks q))) e
      (differ_from pre_marks p q (λ s. out (tells_pre.sound p q (start_bound p q (within p q e)) (ends p q (within p q e)) s))))
  counted p q (another_edge e out) =
      joined p q
      ∙ or_left (apart marks all p q) (apart pre_marks pre p q)
      (and_from (edge_to all p q) (not (eqb (slice_index marks p) (slice_index marks q))) e (differ_from marks p q (λ s. out (tells.sound p q (start_bound p q e) (ends p q e) s))))

  counting_counts : (p q : ℕ) → edge_to counting p q ≡ true → MustPrecede (edge_to all) (edge_to pre) p q
  counting_counts p q h = elim (two_kinds p q h) [
    | inl k ↦ another_edge k.0 (λ c. not_same marks p q k.1 (tells.whole p q (start_bound p q k.0) (ends p q k.0) c))
    | inr k ↦ a_pre_edge k.0 (λ c. not_same pre_marks p q k.1 (tells_pre.whole p q (start_bound p q (within p q k.0)) (ends p q (within p q k.0)) c))
  ]

  pub good_order : (part late : ℕ → Bool) (order : List ℕ) → IsGoodOrder part late (waits_in counting) order → IsGoodOrder part late (λ p q. MustPrecede (edge_to all) (edge_to pre) q p) order
  good_order part late order good = record {
    each_once = good.each_once;
    keeps = λ i j less lt w. good.keeps i j less lt (counted (slice_index order j) (slice_index order i) w);
    ready = λ i lt. let r = good.ready i lt in record { is_part = r.is_part; unplaced = r.unplaced; free = λ q w. r.free q (counted q (slice_index order i) w) };
    due = λ i p lt r. good.due i p lt (record { is_part = r.is_part; unplaced = r.unplaced; free = λ q w. r.free q (counting_counts q p w) });
  }
