-- Walks, classes and orders over places are those over parts.
use Rattle.std.proofs.Common.{◌≡◌, ◌≢◌, ℕ, ◌<◌, Bool, true, false, ◌&&◌, ◌||◌, List, [], ◌∷◌, length, map, take, ◌⊎◌, inl, inr, refl, sym, ap, ◌∙◌, subst, arith}
use Rattle.std.specs.Prelude.{slice_index, nat_lt, if◌then◌else◌}
use Rattle.std.specs.List.{list_any}
use Rattle.std.proofs.lemmas.Bool.{and_parts, and_from, false≢true, false_from_ne_true, or_left, or_right}
use Rattle.std.proofs.lemmas.List.{take-map, get_or-map, length-map}
use Rattle.solv_graph.specs.Walks.{is_walk, end_of, Leads, InOneClass}
use Rattle.solv_graph.specs.Graphs.{is_in, times, row}
use Rattle.solv_graph.specs.Classes.{lowest, IsClassOf, AreClasses}
use Rattle.solv_graph.specs.Orders.{IsReady, precedes, IsGoodOrder}
use Rattle.solv_graph.specs.Inner.Searching.{one_if}
use Rattle.solv_graph.proofs.Edges.{in_times}
use Rattle.solv_graph.proofs.Listed.{in_filter}
use Rattle.solv_graph.proofs.Placed.{in_at}
use Rattle.solv_graph.proofs.Steps.{not_times}
use Rattle.solv_graph.proofs.Walking.{leads_here, leads_step, leads_through}
use Rattle.solv_list.proofs.Booleans.{or_cases, true_or_false}
use Rattle.solv_trans.specs.Orders.{MustPrecede, a_pre_edge, another_edge, IsOrdered}
use Rattle.solv_trans.specs.Inner.Parting.{parts_at}
use Rattle.solv_trans.specs.declared.ordering.Ordered.{Ordered}
use Rattle.solv_trans.proofs.Places.{ArePlaces, in_map, mapped_in, in_take, one_place, place_less, in_same, ascending, times_same}

-- edges between places are those between their parts, and there are no others
pub record AreEmbedded (parts : List ℕ) (part : ℕ → Bool) (own edge : ℕ → ℕ → Bool) : Type 0 where
  pub same : (i j : ℕ) → i < length parts → j < length parts → own i j ≡ edge (slice_index parts i) (slice_index parts j)
  pub inside : (i j : ℕ) → own i j ≡ true → (i < length parts) × (j < length parts)
  pub starts : (a b : ℕ) → edge a b ≡ true → part a ≡ true
  pub ends : (a b : ℕ) → edge a b ≡ true → part b ≡ true

module _ (parts : List ℕ) (n : ℕ) (part : ℕ → Bool) (are : ArePlaces parts n part) where
  abbrev at : ℕ → ℕ
  at i = slice_index parts i

  module _ (own edge : ℕ → ℕ → Bool) (em : AreEmbedded parts part own edge) where
    walk_up : (p : ℕ) (w : List ℕ) → is_walk own p w ≡ true → (is_walk edge (slice_index parts p) (parts_at parts w) ≡ true) × (end_of (slice_index parts p) (parts_at parts w) ≡ slice_index parts (end_of p w))
    walk_up p [] h = (refl, refl)
    walk_up p (q ∷ w) h =
        let both = and_parts (own p q) (is_walk own q w) h in
        let b = em.inside p q both.0 in
        let rest = walk_up q w both.1 in
        (and_from (edge (slice_index parts p) (slice_index parts q)) (is_walk edge (slice_index parts q) (parts_at parts w)) (sym (em.same p q b.0 b.1) ∙ both.0) rest.0, rest.1)

    lead_up : (p q : ℕ) → Leads own p q → Leads edge (slice_index parts p) (slice_index parts q)
    lead_up p q l = let up = walk_up p l.over l.is in record { over = parts_at parts l.over; is = up.0; ends = up.1 ∙ ap (slice_index parts) l.ends }

    walk_down : (p : ℕ) (w : List ℕ) → p < length parts → is_walk edge (slice_index parts p) w ≡ true → (q : ℕ) × (q < length parts) × (slice_index parts q ≡ end_of (slice_index parts p) w) × Leads own p q
    walk_down p [] lt h = (p, lt, refl, leads_here own p)
    walk_down p (x ∷ w) lt h =
        let both = and_parts (edge (slice_index parts p) x) (is_walk edge x w) h in
        let k = are.place x (em.ends (slice_index parts p) x both.0) in
        let rest = walk_down k.0 w k.1 (ap (λ y. is_walk edge y w) k.2 ∙ both.1) in
        let first : own p k.0 ≡ true = em.same p k.0 lt k.1 ∙ ap (edge (slice_index parts p)) k.2 ∙ both.0 in
        (rest.0, rest.1, rest.2 ∙ ap (λ y. end_of y w) k.2, leads_through own p k.0 rest.0 (leads_step own p k.0 first) rest.3)

    -- where walks lead from a part there is a part
    place_led : (p q : ℕ) → p < length parts → Leads edge (slice_index parts p) q → (k : ℕ) × (k < length parts) × (slice_index parts k ≡ q)
    place_led p q lt l = let r = walk_down p l.over lt l.is in (r.0, r.1, r.2 ∙ l.ends)

    lead_down : (p q : ℕ) → p < length parts → q < length parts → Leads edge (slice_index parts p) (slice_index parts q) → Leads own p q
    lead_down p q a b l =
        let r = walk_down p l.over a l.is in
        subst (λ (x : ℕ). Leads own p x) (one_place parts are.rising r.0 q r.1 b (r.2 ∙ l.ends)) r.3

    pub class_up : (p q : ℕ) → InOneClass own p q → InOneClass edge (slice_index parts p) (slice_index parts q)
    class_up p q c = record { there = lead_up p q c.there; back = lead_up q p c.back }

    pub class_down : (p q : ℕ) → p < length parts → q < length parts → InOneClass edge (slice_index parts p) (slice_index parts q) → InOneClass own p q
    class_down p q a b c = record { there = lead_down p q a b c.there; back = lead_down q p b a c.back }

    -- a walk to another vertex starts at a part
    leaves : (p q : ℕ) (w : List ℕ) → is_walk edge p w ≡ true → end_of p w ≡ q → p ≢ q → part p ≡ true
    leaves p q [] h ends other = absurd (other ends)
    leaves p q (x ∷ w) h ends other = em.starts p x (and_parts (edge p x) (is_walk edge x w) h).0

    abbrev lists_at : List (List ℕ) → List (List ℕ)
    lists_at lists = map (parts_at parts) lists

    row_at : (lists : List (List ℕ)) (k : ℕ) → k < length lists → row (map (parts_at parts) lists) k ≡ parts_at parts (row lists k)
    row_at lists k lt = get_or-map (parts_at parts) lists k [] [] lt

    low_at : (l : List ℕ) → 1 < length l → lowest (parts_at parts l) ≡ slice_index parts (lowest l)
    low_at l some = get_or-map (slice_index parts) l 0 0 0 (omega (arith, some))

    class_inside : (v : ℕ) (l : List ℕ) → IsClassOf own (length parts) v l → (k : ℕ) → is_in l k ≡ true → k < length parts
    class_inside v l c k h = (in_filter (is_in l) (length parts) k (ap (λ (x : List ℕ). is_in x k) (sym c.ascending) ∙ h)).0

    class_at : (v : ℕ) (l : List ℕ) → v < length parts → IsClassOf own (length parts) v l → IsClassOf edge n (slice_index parts v) (parts_at parts l)
    class_at v l lt c = record {
      ascending = ascending parts n part are l (class_inside v l c) c.ascending;
      members = λ q h.
          let r = in_map (slice_index parts) l q h in
          subst (λ (x : ℕ). InOneClass edge (slice_index parts v) x) r.2 (class_up v r.0 (c.members r.0 r.1));
      whole = λ q b h.
          let k = place_led v q lt h.there in
          ap (is_in (parts_at parts l)) (sym k.2)
          ∙ mapped_in (slice_index parts) l k.0 (c.whole k.0 k.1 (class_down v k.0 lt k.1 (subst (λ (x : ℕ). InOneClass edge (slice_index parts v) x) (sym k.2) h)));
    }

    any_at : (lists : List (List ℕ)) (a : ℕ) → list_any (λ l. is_in l a) lists ≡ true → list_any (λ l. is_in l (slice_index parts a)) (map (parts_at parts) lists) ≡ true
    any_at [] a h = absurd (false≢true h)
    any_at (l ∷ lists) a h = elim (or_cases (is_in l a) (list_any (λ m. is_in m a) lists) h) [
      | inl k ↦ or_left (is_in (parts_at parts l) (slice_index parts a)) (list_any (λ m. is_in m (slice_index parts a)) (map (parts_at parts) lists)) (mapped_in (slice_index parts) l a k)
      | inr k ↦ or_right (is_in (parts_at parts l) (slice_index parts a)) (list_any (λ m. is_in m (slice_index parts a)) (map (parts_at parts) lists)) (any_at lists a k)
    ]

    module _ (lists : List (List ℕ)) (c : AreClasses own (length parts) lists) where
      size_at : length (map (parts_at parts) lists) ≡ length lists
      size_at = length-map lists (parts_at parts)

      low_inside : (k : ℕ) → k < length lists → lowest (row lists k) < length parts
      low_inside k lt = class_inside (lowest (row lists k)) (row lists k) (c.classes k lt) (lowest (row lists k)) (in_at (row lists k) 0 (omega (arith, c.several k lt)))

      low_is : (k : ℕ) → k < length lists → lowest (row (map (parts_at parts) lists) k) ≡ slice_index parts (lowest (row lists k))
      low_is k lt = ap lowest (row_at lists k lt) ∙ low_at (row lists k) (c.several k lt)

      -- the classes over places, as those of the parts
      pub classes_at : AreClasses edge n (map (parts_at parts) lists)
      classes_at = record {
        several = λ k h. let lt : k < length lists = omega (arith, h, size_at) in omega (arith, ap length (row_at lists k lt), length-map (row lists k) (slice_index parts), c.several k lt);
        classes = λ k h.
            let lt : k < length lists = omega (arith, h, size_at) in
            subst (λ (v : ℕ). IsClassOf edge n v (row (map (parts_at parts) lists) k)) (sym (low_is k lt))
            (subst (λ (l : List ℕ). IsClassOf edge n (slice_index parts (lowest (row lists k))) l) (sym (row_at lists k lt)) (class_at (lowest (row lists k)) (row lists k) (low_inside k lt) (c.classes k lt)));
        by_lowest = λ j k less h.
            let lt : k < length lists = omega (arith, h, size_at) in
            let also : j < length lists = omega (arith, less, lt) in
            omega (arith, low_is j also, low_is k lt, are.rising (lowest (row lists j)) (lowest (row lists k)) (c.by_lowest j k less lt) (low_inside k lt));
        all = λ p q a b h other.
            let i = are.place p (leaves p q h.there.over h.there.is h.there.ends other) in
            let there : Leads edge (slice_index parts i.0) q = subst (λ (x : ℕ). Leads edge x q) (sym i.2) h.there in
            let j = place_led i.0 q i.1 there in
            let here : InOneClass edge (slice_index parts i.0) (slice_index parts j.0) = subst (λ (x : ℕ). InOneClass edge (slice_index parts i.0) x) (sym j.2) (subst (λ (x : ℕ). InOneClass edge x q) (sym i.2) h) in
            ap (λ x. list_any (λ l. is_in l x) (map (parts_at parts) lists)) (sym i.2)
            ∙ any_at lists i.0 (c.all i.0 j.0 i.1 j.1 (class_down i.0 j.0 i.1 j.1 here) (λ e. other (sym i.2 ∙ ap (slice_index parts) e ∙ j.2)));
      }

  module _ (own own_pre edge pre : ℕ → ℕ → Bool) (em : AreEmbedded parts part own edge) (em_pre : AreEmbedded parts part own_pre pre) where
    counts_inside : (a b : ℕ) → MustPrecede own own_pre a b → (a < length parts) × (b < length parts)
    counts_inside a b (a_pre_edge e out) = em_pre.inside a b e
    counts_inside a b (another_edge e out) = em.inside a b e

    counts_up : (a b : ℕ) → MustPrecede own own_pre a b → MustPrecede edge pre (slice_index parts a) (slice_index parts b)
    counts_up a b (a_pre_edge e out) = let k = em_pre.inside a b e in a_pre_edge (sym (em_pre.same a b k.0 k.1) ∙ e) (λ c. out (class_down own_pre pre em_pre a b k.0 k.1 c))
    counts_up a b (another_edge e out) = let k = em.inside a b e in another_edge (sym (em.same a b k.0 k.1) ∙ e) (λ c. out (class_down own edge em a b k.0 k.1 c))

    counts_down : (a b : ℕ) → a < length parts → b < length parts → MustPrecede edge pre (slice_index parts a) (slice_index parts b) → MustPrecede own own_pre a b
    counts_down a b x y (a_pre_edge e out) = a_pre_edge (em_pre.same a b x y ∙ e) (λ c. out (class_up own_pre pre em_pre a b c))
    counts_down a b x y (another_edge e out) = another_edge (em.same a b x y ∙ e) (λ c. out (class_up own edge em a b c))

    counts_start : (a b : ℕ) → MustPrecede edge pre a b → part a ≡ true
    counts_start a b (a_pre_edge e out) = em_pre.starts a b e
    counts_start a b (another_edge e out) = em.starts a b e

    module _ (own_part own_late late : ℕ → Bool) (parts_all : (i : ℕ) → i < length parts → own_part i ≡ true) (parts_only : (i : ℕ) → own_part i ≡ true → i < length parts)
        (lates : (i : ℕ) → i < length parts → own_late i ≡ late (slice_index parts i)) (order : List ℕ) (good : IsGoodOrder own_part own_late (λ p q. MustPrecede own own_pre q p) order) where
      once : (b : Bool) → b ≡ true → one_if b ≡ 1
      once true h = refl
      once false h = absurd (false≢true h)

      never : (b : Bool) → b ≡ false → one_if b ≡ 0
      never true h = absurd (false≢true (sym h))
      never false h = refl

      some_once : (b : Bool) → 0 < one_if b → b ≡ true
      some_once true h = refl
      some_once false h = absurd (omega arith)

      member_inside : (k : ℕ) → is_in order k ≡ true → k < length parts
      member_inside k h = parts_only k (some_once (own_part k) (omega (arith, in_times order k h, good.each_once k)))

      took_inside : (i k : ℕ) → is_in (take i order) k ≡ true → k < length parts
      took_inside i k h = member_inside k (in_take order i k h)

      placed_inside : (i : ℕ) → i < length order → slice_index order i < length parts
      placed_inside i lt = member_inside (slice_index order i) (in_at order i lt)

      size_order : length (parts_at parts order) ≡ length order
      size_order = length-map order (slice_index parts)

      index_at : (i : ℕ) → i < length order → slice_index (parts_at parts order) i ≡ slice_index parts (slice_index order i)
      index_at i lt = get_or-map (slice_index parts) order i 0 0 lt

      took_same : (i k : ℕ) → k < length parts → is_in (take i (parts_at parts order)) (slice_index parts k) ≡ is_in (take i order) k
      took_same i k lt = ap (λ l. is_in l (slice_index parts k)) (take-map (slice_index parts) i order) ∙ in_same parts n part are (take i order) (took_inside i) k lt

      each_once_at : (p : ℕ) → times (parts_at parts order) p ≡ (if part p then 1 else 0)
      each_once_at p = elim (true_or_false (part p)) [
        | inl h ↦
            let k = are.place p h in
            ap (times (parts_at parts order)) (sym k.2) ∙ times_same parts n part are order member_inside k.0 k.1 ∙ good.each_once k.0
            ∙ once (own_part k.0) (parts_all k.0 k.1) ∙ sym (once (part p) h)
        | inr h ↦
            let out : is_in (parts_at parts order) p ≡ false = false_from_ne_true (is_in (parts_at parts order) p) (λ i. let r = in_map (slice_index parts) order p i in false≢true (sym h ∙ ap part (sym r.2) ∙ are.each r.0 (member_inside r.0 r.1))) in
            not_times (parts_at parts order) p out ∙ sym (never (part p) h)
      ]

      ready_at : (i : ℕ) → i < length order → IsReady part late (λ p q. MustPrecede edge pre q p) (take i (parts_at parts order)) (slice_index (parts_at parts order) i)
      ready_at i lt =
          let r = good.ready i lt in
          let b = placed_inside i lt in
          subst (λ (x : ℕ). IsReady part late (λ p q. MustPrecede edge pre q p) (take i (parts_at parts order)) x) (sym (index_at i lt)) (record {
            is_part = are.each (slice_index order i) b;
            unplaced = took_same i (slice_index order i) b ∙ r.unplaced;
            free = λ q w.
                let k = are.place q (counts_start q (slice_index parts (slice_index order i)) w) in
                let own_w : MustPrecede own own_pre k.0 (slice_index order i) = counts_down k.0 (slice_index order i) k.1 b (subst (λ (x : ℕ). MustPrecede edge pre x (slice_index parts (slice_index order i))) (sym k.2) w) in
                ap (is_in (take i (parts_at parts order))) (sym k.2) ∙ took_same i k.0 k.1 ∙ r.free k.0 own_w;
          })

      ready_down : (i k : ℕ) → k < length parts → IsReady part late (λ p q. MustPrecede edge pre q p) (take i (parts_at parts order)) (slice_index parts k) → IsReady own_part own_late (λ p q. MustPrecede own own_pre q p) (take i order) k
      ready_down i k lt r = record {
        is_part = parts_all k lt;
        unplaced = sym (took_same i k lt) ∙ r.unplaced;
        free = λ q w. let b = counts_inside q k w in sym (took_same i q b.0) ∙ r.free (slice_index parts q) (counts_up q k w);
      }

      first_same : (a b c d e f : Bool) → a ≡ d → b ≡ e → c ≡ f → (if a then b && c else b || c) ≡ (if d then e && f else e || f)
      first_same a b c d e f x y z = rw (x, y, z) refl

      due_at : (i p : ℕ) → i < length order → IsReady part late (λ p q. MustPrecede edge pre q p) (take i (parts_at parts order)) p
          → (p ≡ slice_index (parts_at parts order) i) ⊎ (precedes part late (λ p q. MustPrecede edge pre q p) (slice_index (parts_at parts order) i) p ≡ true)
      due_at i p lt r =
          let k = are.place p r.is_part in
          let b = placed_inside i lt in
          let own_r = ready_down i k.0 k.1 (subst (λ (x : ℕ). IsReady part late (λ p q. MustPrecede edge pre q p) (take i (parts_at parts order)) x) (sym k.2) r) in
          elim (good.due i k.0 lt own_r) [
            | inl e ↦ inl (sym k.2 ∙ ap (slice_index parts) e ∙ sym (index_at i lt))
            | inr e ↦ inr (
                ap (λ x. precedes part late (λ p q. MustPrecede edge pre q p) x p) (index_at i lt) ∙ ap (precedes part late (λ p q. MustPrecede edge pre q p) (slice_index parts (slice_index order i))) (sym k.2)
                ∙ first_same (late (slice_index parts (slice_index order i))) (late (slice_index parts k.0)) (nat_lt (slice_index parts (slice_index order i)) (slice_index parts k.0)) (own_late (slice_index order i)) (own_late k.0) (nat_lt (slice_index order i) k.0)
                (sym (lates (slice_index order i) b)) (sym (lates k.0 k.1)) (place_less parts are.rising (slice_index order i) k.0 b k.1)
                ∙ e)
          ]

      -- a good order of places, as one of the parts
      pub order_at : IsGoodOrder part late (λ p q. MustPrecede edge pre q p) (parts_at parts order)
      order_at = record {
        each_once = each_once_at;
        keeps = λ i j less lt w.
            let b : j < length order = omega (arith, lt, size_order) in
            let a : i < length order = omega (arith, less, b) in
            let w_at : MustPrecede edge pre (slice_index parts (slice_index order j)) (slice_index parts (slice_index order i)) = subst (λ (x : ℕ). MustPrecede edge pre x (slice_index parts (slice_index order i))) (index_at j b) (subst (λ (x : ℕ). MustPrecede edge pre (slice_index (parts_at parts order) j) x) (index_at i a) w) in
            good.keeps i j less b (counts_down (slice_index order j) (slice_index order i) (placed_inside j b) (placed_inside i a) w_at);
        ready = λ i lt. ready_at i (omega (arith, lt, size_order));
        due = λ i p lt r. due_at i p (omega (arith, lt, size_order)) r;
      }

    -- what is ordered over places is ordered over packages
    pub ordered_at : (own_part own_late late : ℕ → Bool) → ((i : ℕ) → i < length parts → own_part i ≡ true) → ((i : ℕ) → own_part i ≡ true → i < length parts) → ((i : ℕ) → i < length parts → own_late i ≡ late (slice_index parts i))
        → (made : Ordered) → IsOrdered (length parts) own_part own_late own own_pre made
        → IsOrdered n part late edge pre (record { parts = parts_at parts made.parts; pre_cycles = map (parts_at parts) made.pre_cycles; cycles = map (parts_at parts) made.cycles })
    ordered_at own_part own_late late all only lates made h = record {
      order = order_at own_part own_late late all only lates made.parts h.order;
      pre_cycles = classes_at own_pre pre em_pre made.pre_cycles h.pre_cycles;
      cycles = classes_at own edge em made.cycles h.cycles;
    }
