-- What a search collects, one marked literal at a time.
use Rattle.std.proofs.Common.{◌≡◌, ℕ, ◌<◌, ◌≤◌, Bool, true, false, not, ◌&&◌, ◌||◌, List, [], ◌∷◌, ◌++◌, length, take, map, min, ◌⊎◌, inl, inr, refl, sym, ap, ◌∙◌, arith, ◌+◌, eqb, eq-eqb}
use Rattle.std.specs.Prelude.{ℤ, neg_ℤ, nat_lt}
use Rattle.std.specs.Ordering.{int_eq}
use Rattle.std.proofs.lemmas.Bool.{or_left, or_right, or_cases, or_parts, and_parts, and_from, cases_Bool, cases_lt, false≢true, lt-ltb, ltb-true, false_from_ne_true}
use Rattle.std.proofs.lemmas.List.{map-append, take-take}
use Rattle.std.proofs.lemmas.List.Folds.{list_any-append}
use Rattle.solv_pool.specs.Prelude.{is_fact, is_refuted}
use Rattle.solv_derive.proofs.Facts.{same_self, known_later, known_same, known_cases, neg-neg}
use Rattle.solv_trail.specs.Inner.Derivation.{IsConsistent}
use Rattle.solv_trail.proofs.Walk.{take_known}
use Rattle.solv_learn.specs.Inner.Collecting.{IsCollected, HasMarked, HavePlaces}
use Rattle.solv_learn.specs.Collecting.{is_plain}
use Rattle.solv_list.proofs.Booleans.{neither as of_neither}
use Rattle.solv_list.proofs.Numbers.{same_integer}

neither : (a b : Bool) → a ≡ false → b ≡ false → (not a && not b) ≡ true
neither a b e f = rw (e, f) refl

in_both : (A B : List ℤ) (l : ℤ) → is_fact (A ++ B) l ≡ true → (is_fact A l ≡ true) ⊎ (is_fact B l ≡ true)
in_both A B l h = or_cases (is_fact A l) (is_fact B l) (sym (list_any-append (int_eq l) A B) ∙ h)

pub in_front : (A B : List ℤ) (l : ℤ) → is_fact A l ≡ true → is_fact (A ++ B) l ≡ true
in_front A B l h = list_any-append (int_eq l) A B ∙ or_left (is_fact A l) (is_fact B l) h

pub at_end : (A B : List ℤ) (l : ℤ) → is_fact B l ≡ true → is_fact (A ++ B) l ≡ true
at_end A B l h = list_any-append (int_eq l) A B ∙ or_right (is_fact A l) (is_fact B l) h

pub one_of : (y l : ℤ) → is_fact (y ∷ []) l ≡ true → l ≡ y
one_of y l h = elim (known_cases y l [] h) [ inl e ↦ e | inr z ↦ absurd (false≢true z) ]

-- the negations of a list
pub negated : (L : List ℤ) (m : ℤ) → is_fact L m ≡ true → is_fact (map neg_ℤ L) (neg_ℤ m) ≡ true
negated [] m h = absurd (false≢true h)
negated (x ∷ L) m h = elim (known_cases x m L h) [
  | inl e ↦ known_same (neg_ℤ x) (neg_ℤ m) (map neg_ℤ L) (ap neg_ℤ e)
  | inr r ↦ known_later (neg_ℤ x) (neg_ℤ m) (map neg_ℤ L) (negated L m r)
]

-- one more literal, which is not there and whose negation is not
pub plain_push : (L : List ℤ) (y : ℤ) → is_plain L ≡ true → is_fact L y ≡ false → is_refuted L y ≡ false → is_plain (L ++ y ∷ []) ≡ true
plain_push [] y p h k = refl
plain_push (l ∷ ls) y p h k =
    let parts = and_parts (not (is_fact ls l) && not (is_refuted ls l)) (is_plain ls) p in
    let apart = of_neither (is_fact ls l) (is_refuted ls l) parts.0 in
    let there = or_parts (int_eq y l) (is_fact ls y) h in
    let turned = or_parts (int_eq (neg_ℤ y) l) (is_refuted ls y) k in
    let same_not : is_fact (ls ++ y ∷ []) l ≡ false = false_from_ne_true (is_fact (ls ++ y ∷ []) l) (λ t. elim (in_both ls (y ∷ []) l t) [
      | inl a ↦ false≢true (sym apart.0 ∙ a)
      | inr b ↦ false≢true (sym there.0 ∙ ap (λ v. int_eq v l) (sym (one_of y l b)) ∙ same_self l)
    ]) in
    let neg_not : is_refuted (ls ++ y ∷ []) l ≡ false = false_from_ne_true (is_refuted (ls ++ y ∷ []) l) (λ t. elim (in_both ls (y ∷ []) (neg_ℤ l) t) [
      | inl a ↦ false≢true (sym apart.1 ∙ a)
      | inr b ↦ false≢true (sym turned.0 ∙ ap (λ v. int_eq (neg_ℤ v) l) (sym (one_of y (neg_ℤ l) b)) ∙ ap (λ v. int_eq v l) (neg-neg l) ∙ same_self l)
    ]) in
    and_from (not (is_fact (ls ++ y ∷ []) l) && not (is_refuted (ls ++ y ∷ []) l)) (is_plain (ls ++ y ∷ [])) (neither (is_fact (ls ++ y ∷ []) l) (is_refuted (ls ++ y ∷ []) l) same_not neg_not)
    (plain_push ls y parts.1 there.1 turned.1)

-- nothing is marked
pub collected_none : (T : List ℤ) (first last : ℕ) (Q : ℤ → Bool) → ((l : ℤ) → Q l ≡ false) → IsCollected T first last Q [] (length T)
collected_none T first last Q none = record {
  inside = λ l q. absurd (false≢true (sym (none l) ∙ q));
  least = λ l q f. absurd (false≢true (sym (none l) ∙ q));
  short = omega arith;
  found = λ h. absurd (omega arith);
  kept = λ l q a b. absurd (false≢true (sym (none l) ∙ q));
  only = λ l h. absurd (false≢true h);
  plain = refl;
}

-- x comes to the marked literals; it stands at place p
pub record IsAdded (T : List ℤ) (x : ℤ) (Q new : ℤ → Bool) (p : ℕ) : Type 0 where
  pub apart : IsConsistent T
  pub was : Q x ≡ false
  pub is : (l : ℤ) → new l ≡ (int_eq l x || Q l)
  pub there : is_fact T x ≡ true
  pub before : (e : ℕ) → is_fact (take e T) x ≡ nat_lt p e
  pub within : p < length T

module _ (T : List ℤ) (x : ℤ) (Q new : ℤ → Bool) (p : ℕ) (added : IsAdded T x Q new p) where
  grows : (l : ℤ) → Q l ≡ true → new l ≡ true
  grows l q = added.is l ∙ or_right (int_eq l x) (Q l) q

  came : (l : ℤ) → new l ≡ true → (l ≡ x) ⊎ (Q l ≡ true)
  came l n = elim (or_cases (int_eq l x) (Q l) (sym (added.is l) ∙ n)) [ inl e ↦ inl (same_integer l x e) | inr q ↦ inr q ]

  here : new x ≡ true
  here = added.is x ∙ or_left (int_eq x x) (Q x) (same_self x)

  inside_still : ((l : ℤ) → Q l ≡ true → is_fact T l ≡ true) → (l : ℤ) → new l ≡ true → is_fact T l ≡ true
  inside_still h l n = elim (came l n) [ inl e ↦ ap (is_fact T) e ∙ added.there | inr q ↦ h l q ]

  known_below : (e : ℕ) → p < e → is_fact (take e T) x ≡ true
  known_below e h = added.before e ∙ lt-ltb p e h

  unknown_above : (e : ℕ) → e ≤ p → is_fact (take e T) x ≡ false
  unknown_above e h = false_from_ne_true (is_fact (take e T) x) (λ t. let less : p < e = ltb-true p e (sym (added.before e) ∙ t) in omega arith)

  fewer : (l : ℤ) (d e : ℕ) → d ≤ e → is_fact (take e T) l ≡ false → is_fact (take d T) l ≡ false
  fewer l d e h f = false_from_ne_true (is_fact (take d T) l) (λ t.
      let same_take : take d (take e T) ≡ take d T = take-take d e T h in
      let up : is_fact (take d (take e T)) l ≡ true = ap (λ v. is_fact v l) same_take ∙ t in
      false≢true (sym f ∙ take_known (take e T) d l up))

  module _ (first last : ℕ) (L : List ℤ) (lowest : ℕ) (order : first ≤ last) (c : IsCollected T first last Q L lowest) where
    -- from the last choice on
    pub collected_late : (low : ℕ) → low ≡ min lowest p → last ≤ p → IsCollected T first last new L low
    collected_late low e h =
        let under : low ≤ p = omega arith in
        let fall : low ≤ lowest = omega arith in
        record {
          inside = inside_still c.inside;
          least = λ l n f. elim (came l n) [
            | inl s ↦ ap (is_fact (take low T)) s ∙ unknown_above low under
            | inr q ↦ fewer l low lowest fall (c.least l q f)
          ];
          short = let s = c.short in omega arith;
          found = λ k. elim (cases_lt lowest p) [
            | inl a ↦ let b : last ≤ lowest = c.found (let w = added.within in omega arith) in omega arith
            | inr a ↦ omega arith
          ];
          kept = λ l n a b. elim (came l n) [
            | inl s ↦ absurd (false≢true (sym (unknown_above last h) ∙ ap (is_fact (take last T)) (sym s) ∙ a))
            | inr q ↦ c.kept l q a b
          ];
          only = λ l m. let o = c.only l m in (grows l o.0, o.1, o.2);
          plain = c.plain;
        }

    -- between the first choice and the last
    pub collected_between : (y : ℤ) → neg_ℤ y ≡ x → first ≤ p → p < last → IsCollected T first last new (L ++ y ∷ []) lowest
    collected_between y turned low high =
        let e : map neg_ℤ (L ++ y ∷ []) ≡ map neg_ℤ L ++ x ∷ [] = map-append neg_ℤ L (y ∷ []) ∙ ap (λ v. map neg_ℤ L ++ v ∷ []) turned in
        let back : neg_ℤ x ≡ y = ap neg_ℤ (sym turned) ∙ neg-neg y in
        record {
          inside = inside_still c.inside;
          least = λ l n f. elim (came l n) [
            | inl s ↦ absurd (false≢true (sym f ∙ ap (is_fact (take last T)) s ∙ known_below last high))
            | inr q ↦ c.least l q f
          ];
          short = c.short;
          found = c.found;
          kept = λ l n a b. ap (λ v. is_fact v l) e ∙ elim (came l n) [
            | inl s ↦ at_end (map neg_ℤ L) (x ∷ []) l (known_same x l [] s)
            | inr q ↦ in_front (map neg_ℤ L) (x ∷ []) l (c.kept l q a b)
          ];
          only = λ l m. elim (in_both (map neg_ℤ L) (x ∷ []) l (ap (λ v. is_fact v l) (sym e) ∙ m)) [
            | inl a ↦ let o = c.only l a in (grows l o.0, o.1, o.2)
            | inr b ↦
                let s : l ≡ x = one_of x l b in
                (ap new s ∙ here, ap (is_fact (take last T)) s ∙ known_below last high, ap (is_fact (take first T)) s ∙ unknown_above first low)
          ];
          plain = plain_push L y c.plain
              (false_from_ne_true (is_fact L y) (λ t. false≢true (sym added.was ∙ (c.only x (ap (is_fact (map neg_ℤ L)) (sym turned) ∙ negated L y t)).0)))
              (false_from_ne_true (is_refuted L y) (λ t.
              let in_t : is_fact T y ≡ true = c.inside y (c.only y (ap (is_fact (map neg_ℤ L)) (sym (neg-neg y)) ∙ negated L (neg_ℤ y) t)).0 in
              added.apart.apart y in_t (ap (is_fact T) turned ∙ added.there)));
        }

    -- before the first choice
    pub collected_early : p < first → IsCollected T first last new L lowest
    collected_early h = record {
      inside = inside_still c.inside;
      least = λ l n f. elim (came l n) [
        | inl s ↦ absurd (false≢true (sym f ∙ ap (is_fact (take last T)) s ∙ known_below last (omega arith)))
        | inr q ↦ c.least l q f
      ];
      short = c.short;
      found = c.found;
      kept = λ l n a b. elim (came l n) [
        | inl s ↦ absurd (false≢true (sym b ∙ ap (is_fact (take first T)) s ∙ known_below first h))
        | inr q ↦ c.kept l q a b
      ];
      only = λ l m. let o = c.only l m in (grows l o.0, o.1, o.2);
      plain = c.plain;
    }

  -- the negation of the clause's one literal
  pub marked_one : (y : ℤ) → neg_ℤ y ≡ x → HasMarked T (y ∷ []) Q new
  marked_one y turned = record {
    grows = grows;
    marks = λ m k r. ap new (ap neg_ℤ (one_of y m k) ∙ turned) ∙ here;
    nothing_else = λ l n f. elim (came l n) [
      | inl s ↦ (known_same y (neg_ℤ l) [] (ap neg_ℤ s ∙ ap neg_ℤ (sym turned) ∙ neg-neg y), ap (is_fact T) s ∙ added.there)
      | inr q ↦ absurd (false≢true (sym f ∙ q))
    ];
  }

  same_place : (q : ℕ) → ((e : ℕ) → is_fact (take e T) x ≡ nat_lt q e) → q ≡ p
  same_place q first =
      let a : nat_lt q (p + 1) ≡ true = sym (first (p + 1)) ∙ added.before (p + 1) ∙ lt-ltb p (p + 1) (omega arith) in
      let b : nat_lt p (q + 1) ≡ true = sym (added.before (q + 1)) ∙ first (q + 1) ∙ lt-ltb q (q + 1) (omega arith) in
      let c : q < p + 1 = ltb-true q (p + 1) a in
      let d : p < q + 1 = ltb-true p (q + 1) b in
      omega arith

  -- its place comes to the places
  pub places_more : (at more : ℕ → Bool) → ((k : ℕ) → more k ≡ (eqb k p || at k)) → HavePlaces T Q at → HavePlaces T new more
  places_more at more is have = λ l q n first. elim (came l n) [
    | inl s ↦ is q ∙ or_left (eqb q p) (at q) (eq-eqb q p (same_place q (λ e. ap (is_fact (take e T)) (sym s) ∙ first e)))
    | inr h ↦ is q ∙ or_right (eqb q p) (at q) (have l q h first)
  ]

-- nothing is to be marked
pub marked_nothing : (T : List ℤ) (y : ℤ) (Q : ℤ → Bool) → (is_refuted T y ≡ true → Q (neg_ℤ y) ≡ true) → HasMarked T (y ∷ []) Q Q
marked_nothing T y Q h = record {
  grows = λ l q. q;
  marks = λ m k r. let e : m ≡ y = one_of y m k in ap (λ v. Q (neg_ℤ v)) e ∙ h (ap (is_refuted T) (sym e) ∙ r);
  nothing_else = λ l n f. absurd (false≢true (sym f ∙ n));
}

pub marked_empty : (T : List ℤ) (Q : ℤ → Bool) → HasMarked T [] Q Q
marked_empty T Q = record {
  grows = λ l q. q;
  marks = λ m k r. absurd (false≢true k);
  nothing_else = λ l n f. absurd (false≢true (sym f ∙ n));
}

pub marked_more : (T c d : List ℤ) (Q R S : ℤ → Bool) → HasMarked T c Q R → HasMarked T d R S → HasMarked T (c ++ d) Q S
marked_more T c d Q R S a b = record {
  grows = λ l q. b.grows l (a.grows l q);
  marks = λ m k r. elim (in_both c d m k) [
    | inl x ↦ b.grows (neg_ℤ m) (a.marks m x r)
    | inr x ↦ b.marks m x r
  ];
  nothing_else = λ l n f. elim (cases_Bool (R l)) [
    | inl x ↦ let o = a.nothing_else l x f in (in_front c d (neg_ℤ l) o.0, o.1)
    | inr x ↦ let o = b.nothing_else l n x in (at_end c d (neg_ℤ l) o.0, o.1)
  ];
}
