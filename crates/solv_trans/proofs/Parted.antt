-- Graphs over the places of the parts.
use Rattle.std.proofs.Common.{◌≡◌, ℕ, zero, suc, ◌<◌, Bool, true, false, ◌&&◌, ◌||◌, List, [], ◌∷◌, ◌++◌, length, filter, get_or, refl, sym, ap, ◌∙◌, subst, arith, eqb, eq-eqb, inl, inr, add-one, ◌+◌, ◌≤◌}
use Rattle.std.specs.Prelude.{slice_index, nat_lt, ◌==◌, if◌then◌else◌}
use Rattle.std.specs.List.{list_any}
use Rattle.std.proofs.lemmas.Bool.{and_parts, and_from, false≢true, eqb-true, ltb-true, or_left, or_right}
use Rattle.std.proofs.lemmas.List.{get_or-map, length-map, length-append}
use Rattle.solv_graph.specs.Graphs.{is_in}
use Rattle.solv_graph.specs.Classes.{numbers}
use Rattle.solv_graph.specs.Inner.Graphs.{edge_to}
use Rattle.solv_graph.specs.Inner.Orders.{is_placed, is_late, turn_at, part_of, late_of}
use Rattle.solv_graph.specs.declared.orders.Turn.{Turn}
use Rattle.solv_graph.specs.declared.orders.Turn.TheVariants.{Never}
use Rattle.solv_graph.proofs.Listed.{single_if, filter_more, filter_in}
use Rattle.solv_graph.proofs.Steps.{turn_bound}
use Rattle.solv_list.proofs.Booleans.{or_cases, or_false, same_truth}
use Rattle.solv_list.proofs.Lists.{below_true, list_any_same}
use Rattle.solv_trans.specs.Orders.{IsOrdered}
use Rattle.solv_trans.specs.Inner.Joining.{linked, pre_linked}
use Rattle.solv_trans.specs.Inner.Parting.{IsRising, turns_at, joins_places, pre_joins_places, Puts, AreJoined, IsOrderedAt}
use Rattle.solv_trans.specs.declared.edges.Link.{Link}
use Rattle.solv_trans.specs.declared.parting.Edges.{Edges}
use Rattle.solv_trans.specs.declared.ordering.Ordered.{Ordered}
use Rattle.solv_trans.proofs.Joined.{adds_none, adds_more}
use Rattle.solv_trans.proofs.Places.{ArePlaces, are_places, place_equal}
use Rattle.solv_trans.proofs.Embedded.{AreEmbedded, ordered_at}

-- an edge is put between the places of its ends
module _ (parts : List ℕ) (rises : IsRising parts) (link : Link) (from to : ℕ) (a : from < length parts) (b : to < length parts) (first : slice_index parts from ≡ link.from) (second : slice_index parts to ≡ link.to) where
  at_end : (i j end : ℕ) → i < length parts → slice_index parts i ≡ end → (eqb i j) ≡ (nat_lt j (length parts) && eqb end (slice_index parts j))
  at_end i j end lt is = same_truth (eqb i j) (nat_lt j (length parts) && eqb end (slice_index parts j))
      (λ e. let same : i ≡ j = eqb-true i j e in and_from (nat_lt j (length parts)) (eqb end (slice_index parts j)) (below_true j (length parts) (omega (arith, lt, same))) (eq-eqb end (slice_index parts j) (sym is ∙ ap (slice_index parts) same)))
      (λ h.
      let both = and_parts (nat_lt j (length parts)) (eqb end (slice_index parts j)) h in
      sym (place_equal parts rises i j lt (ltb-true j (length parts) both.0)) ∙ eq-eqb (slice_index parts i) (slice_index parts j) (is ∙ eqb-true end (slice_index parts j) both.1))

  four : (p q r s : Bool) → ((p && q) && (r && s)) ≡ ((p && r) && (q && s))
  four true true r s = refl
  four true false true s = refl
  four true false false s = refl
  four false q r s = refl

  between_is : (i j : ℕ) → (eqb from i && eqb to j) ≡ joins_places parts link i j
  between_is i j =
      ap (λ t. t && eqb to j) (at_end from i link.from a first) ∙ ap (λ t. (nat_lt i (length parts) && eqb link.from (slice_index parts i)) && t) (at_end to j link.to b second)
      ∙ four (nat_lt i (length parts)) (eqb link.from (slice_index parts i)) (nat_lt j (length parts)) (eqb link.to (slice_index parts j))

  pub puts_one : (old new : Edges) → length new.all ≡ length old.all → length new.pre ≡ length old.pre
      → ((i j : ℕ) → edge_to new.all i j ≡ (edge_to old.all i j || (eqb from i && eqb to j)))
      → ((i j : ℕ) → edge_to new.pre i j ≡ (edge_to old.pre i j || (link.pre && (eqb from i && eqb to j)))) → Puts parts (link ∷ []) old new
  puts_one old new size pre_size all pre = record {
    all = record { size = size; edges = λ i j. all i j ∙ ap (λ t. edge_to old.all i j || t) (between_is i j ∙ sym (or_false (joins_places parts link i j))) };
    pre = record { size = pre_size; edges = λ i j. pre i j ∙ ap (λ t. edge_to old.pre i j || t) (ap (λ t. link.pre && t) (between_is i j) ∙ sym (or_false (pre_joins_places parts link i j))) };
  }

module _ (parts : List ℕ) where
  pub puts_none : (old : Edges) → Puts parts [] old old
  puts_none old = record { all = adds_none (joins_places parts) old.all; pre = adds_none (pre_joins_places parts) old.pre }

  pub puts_more : (xs ys : List Link) (old mid new : Edges) → Puts parts xs old mid → Puts parts ys mid new → Puts parts (xs ++ ys) old new
  puts_more xs ys old mid new f g = record { all = adds_more (joins_places parts) xs ys old.all mid.all new.all f.all g.all; pre = adds_more (pre_joins_places parts) xs ys old.pre mid.pre new.pre f.pre g.pre }

-- an edge of a list is held by it
pub link_told : (links : List Link) (k : ℕ) (d : Link) → k < length links → linked links (get_or links k d).from (get_or links k d).to ≡ true
link_told [] k d lt = absurd (omega arith)
link_told (x ∷ links) zero d lt = or_left (eqb x.from x.from && eqb x.to x.to) (linked links x.from x.to) (and_from (eqb x.from x.from) (eqb x.to x.to) (eq-eqb x.from x.from refl) (eq-eqb x.to x.to refl))
link_told (x ∷ links) (suc k) d lt = let link : Link = get_or links k d in or_right (eqb x.from link.from && eqb x.to link.to) (linked links link.from link.to) (link_told links k d (omega (arith, lt)))

-- one package more
pub part_more : (turns : List Turn) (parts now : List ℕ) (pack : ℕ) → now ≡ parts ++ (if part_of turns pack then pack ∷ [] else []) → parts ≡ filter (part_of turns) (numbers pack) → now ≡ filter (part_of turns) (numbers (pack + 1))
part_more turns parts now pack is before =
    is ∙ ap (λ l. l ++ (if part_of turns pack then pack ∷ [] else [])) before ∙ ap (λ l. filter (part_of turns) (numbers pack) ++ l) (single (part_of turns pack)) ∙ sym (filter_more (part_of turns) pack)
    ∙ ap (λ k. filter (part_of turns) (numbers k)) (sym (add-one pack))
  where
    single : (b : Bool) → (if b then pack ∷ [] else []) ≡ single_if b pack
    single true = refl
    single false = refl

pub few_more : (b : Bool) (parts now : List ℕ) (pack : ℕ) → now ≡ parts ++ (if b then pack ∷ [] else []) → length parts ≤ pack → length now ≤ pack + 1
few_more true parts now pack is few = omega (arith, ap length is, length-append parts (pack ∷ []), few)
few_more false parts now pack is few = omega (arith, ap length is, length-append parts [], few)

-- graphs over places have the edges between the parts at them
inside_all : (c d : Bool) (f : Link → Bool) (links : List Link) → list_any (λ (l : Link). (c && d) && f l) links ≡ true → (c ≡ true) × (d ≡ true)
inside_all c d f [] h = absurd (false≢true h)
inside_all c d f (l ∷ links) h = elim (or_cases ((c && d) && f l) (list_any (λ (m : Link). (c && d) && f m) links) h) [
  | inl k ↦ and_parts c d (and_parts (c && d) (f l) k).0
  | inr k ↦ inside_all c d f links k
]

inside_pre : (c d : Bool) (f : Link → Bool) (links : List Link) → list_any (λ (l : Link). l.pre && ((c && d) && f l)) links ≡ true → (c ≡ true) × (d ≡ true)
inside_pre c d f [] h = absurd (false≢true h)
inside_pre c d f (l ∷ links) h = elim (or_cases (l.pre && ((c && d) && f l)) (list_any (λ (m : Link). m.pre && ((c && d) && f m)) links) h) [
  | inl k ↦ and_parts c d (and_parts (c && d) (f l) (and_parts l.pre ((c && d) && f l) k).1).0
  | inr k ↦ inside_pre c d f links k
]

module _ (turns : List Turn) (parts : List ℕ) (is : parts ≡ filter (part_of turns) (numbers (length turns))) where
  pub are : ArePlaces parts (length turns) (part_of turns)
  are = subst (λ (l : List ℕ). ArePlaces l (length turns) (part_of turns)) (sym is) (are_places (length turns) (part_of turns) (turn_bound turns))

  pub rising : IsRising parts
  rising = are.rising

  pub is_held : (p : ℕ) → part_of turns p ≡ true → is_in parts p ≡ true
  is_held p h = ap (λ l. is_in l p) is ∙ filter_in (part_of turns) (length turns) p (turn_bound turns p h) h

  -- the turns of the parts
  own_turn : (i : ℕ) → i < length parts → turn_at (turns_at turns parts) i ≡ turn_at turns (slice_index parts i)
  own_turn i lt = get_or-map (turn_at turns) parts i 0 Never lt

  own_part : (i : ℕ) → i < length parts → part_of (turns_at turns parts) i ≡ true
  own_part i lt = ap is_placed (own_turn i lt) ∙ are.each i lt

  own_late : (i : ℕ) → i < length parts → late_of (turns_at turns parts) i ≡ late_of turns (slice_index parts i)
  own_late i lt = ap is_late (own_turn i lt)

  own_inside : (i : ℕ) → part_of (turns_at turns parts) i ≡ true → i < length parts
  own_inside i h = omega (arith, turn_bound (turns_at turns parts) i h, length-map parts (turn_at turns))

  module _ (links : List Link) (within : (a b : ℕ) → pre_linked links a b ≡ true → linked links a b ≡ true) (starts : (a b : ℕ) → linked links a b ≡ true → part_of turns a ≡ true) (ends : (a b : ℕ) → linked links a b ≡ true → part_of turns b ≡ true) (edges : Edges) (joined : AreJoined parts links edges) where
    embedded : AreEmbedded parts (part_of turns) (edge_to edges.all) (linked links)
    embedded = record {
      same = λ i j a b.
          joined.all i j
          ∙ list_any_same (λ (l : Link). joins_places parts l i j) (λ (l : Link). l.from == slice_index parts i && l.to == slice_index parts j) (λ l. both_in i j a b (l.from == slice_index parts i && l.to == slice_index parts j)) links;
      inside = λ i j h.
          let b = inside_all (nat_lt i (length parts)) (nat_lt j (length parts)) (λ l. l.from == slice_index parts i && l.to == slice_index parts j) links (sym (joined.all i j) ∙ h) in
          (ltb-true i (length parts) b.0, ltb-true j (length parts) b.1);
      starts = starts;
      ends = ends;
    }
      where
        both_in : (i j : ℕ) → i < length parts → j < length parts → (t : Bool) → ((nat_lt i (length parts) && nat_lt j (length parts)) && t) ≡ t
        both_in i j a b t = ap (λ x. (x && nat_lt j (length parts)) && t) (below_true i (length parts) a) ∙ ap (λ x. x && t) (below_true j (length parts) b)

    embedded_pre : AreEmbedded parts (part_of turns) (edge_to edges.pre) (pre_linked links)
    embedded_pre = record {
      same = λ i j a b.
          joined.pre i j
          ∙ list_any_same (λ (l : Link). pre_joins_places parts l i j) (λ (l : Link). l.pre && (l.from == slice_index parts i && l.to == slice_index parts j)) (λ l. both_in i j a b l.pre (l.from == slice_index parts i && l.to == slice_index parts j)) links;
      inside = λ i j h.
          let b = inside_pre (nat_lt i (length parts)) (nat_lt j (length parts)) (λ l. l.from == slice_index parts i && l.to == slice_index parts j) links (sym (joined.pre i j) ∙ h) in
          (ltb-true i (length parts) b.0, ltb-true j (length parts) b.1);
      starts = λ a b h. starts a b (within a b h);
      ends = λ a b h. ends a b (within a b h);
    }
      where
        both_in : (i j : ℕ) → i < length parts → j < length parts → (p t : Bool) → (p && ((nat_lt i (length parts) && nat_lt j (length parts)) && t)) ≡ (p && t)
        both_in i j a b p t = ap (λ x. p && ((x && nat_lt j (length parts)) && t)) (below_true i (length parts) a) ∙ ap (λ x. p && (x && t)) (below_true j (length parts) b)

    pub own_within : (i j : ℕ) → edge_to edges.pre i j ≡ true → edge_to edges.all i j ≡ true
    own_within i j h =
        let b = embedded_pre.inside i j h in
        embedded.same i j b.0 b.1 ∙ within (slice_index parts i) (slice_index parts j) (sym (embedded_pre.same i j b.0 b.1) ∙ h)

    pub own_starts : (i j : ℕ) → edge_to edges.all i j ≡ true → part_of (turns_at turns parts) i ≡ true
    own_starts i j h = own_part i (embedded.inside i j h).0

    pub own_ends : (i j : ℕ) → edge_to edges.all i j ≡ true → part_of (turns_at turns parts) j ≡ true
    own_ends i j h = own_part j (embedded.inside i j h).1

    -- the order over the places is one over the packages
    pub ordered_parts : (made : Ordered) → IsOrderedAt parts (part_of (turns_at turns parts)) (late_of (turns_at turns parts)) (edge_to edges.all) (edge_to edges.pre) made
        → IsOrdered (length turns) (part_of turns) (late_of turns) (linked links) (pre_linked links) made
    ordered_parts made h = subst (λ (o : Ordered). IsOrdered (length turns) (part_of turns) (late_of turns) (linked links) (pre_linked links) o) (sym h.is)
        (ordered_at parts (length turns) (part_of turns) are (edge_to edges.all) (edge_to edges.pre) (linked links) (pre_linked links) embedded embedded_pre (part_of (turns_at turns parts)) (late_of (turns_at turns parts)) (late_of turns) own_part own_inside own_late h.own h.ordered)
