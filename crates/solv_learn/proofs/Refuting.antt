-- Going back over the trail from a false clause gives a good step.
use Rattle.std.proofs.Common.{◌≡◌, ℕ, zero, suc, ◌<◌, ◌≤◌, Bool, true, false, ◌||◌, List, [], ◌∷◌, length, take, get_or, map, filter, Option, Some, None, ◌⊎◌, inl, inr, refl, sym, ap, ◌∙◌, arith}
use Rattle.std.specs.Prelude.{ℤ, pos, neg_ℤ, nat_lt}
use Rattle.std.specs.Ordering.{int_eq}
use Rattle.std.proofs.lemmas.Bool.{false≢true, cases_Bool, cases_lt, lt-ltb, ltb-true, false_from_ne_true}
use Rattle.std.proofs.lemmas.List.{take_all}
use Rattle.solv_pool.specs.Prelude.{is_fact, is_refuted, is_open}
use Rattle.solv_derive.specs.Forced.{is_falsified, forced}
use Rattle.solv_derive.specs.Inner.Forced.{is_satisfied}
use Rattle.solv_derive.specs.Logs.{ends_in_conflict}
use Rattle.solv_derive.specs.declared.logs.Hint.{Hint}
use Rattle.solv_derive.proofs.Facts.{known_later, known_same, known_cases, all_from, none_from, filter_same, Forces, forces_from, forced_from, forced_member, forced_others, open_parts, open_from}
use Rattle.solv_trail.specs.Inner.Derivation.{Within, IsConsistent}
use Rattle.solv_trail.proofs.Walk.{take_known, known_at, known_up, known_last}
use Rattle.solv_learn.specs.Inner.Collecting.{HavePlaces}
use Rattle.solv_learn.specs.Inner.Refuting.{Refutes}
use Rattle.solv_trail.proofs.Unit.{known_next, not_open}

-- a clause forces the same from other facts that have its other literals false and x open
pub forced_agree : (K A r : List ℤ) (x : ℤ) → forced K r ≡ Some x → ((m : ℤ) → is_fact r m ≡ true → (m ≡ x) ⊎ ((is_refuted A m ≡ true) × (is_fact A m ≡ false))) → is_fact A x ≡ false → is_refuted A x ≡ false → forced A r ≡ Some x
forced_agree K A r x h others unknown f =
    let force : Forces K r x = forces_from K r x h in
    let no_true : is_satisfied A r ≡ false = none_from (is_fact A) r (λ m k. elim (others m k) [
      | inl e ↦ ap (is_fact A) e ∙ unknown
      | inr g ↦ g.1
    ]) in
    let same_open : filter (is_open A) r ≡ filter (is_open K) r = filter_same (is_open A) (is_open K) r (λ m k. elim (forced_others K r x force m k) [
      | inl e ↦ ap (is_open A) e ∙ open_from A x unknown f ∙ sym (forced_member K r x force).1 ∙ ap (is_open K) (sym e)
      | inr g ↦ elim (others m k) [
        | inl e ↦ ap (is_open A) e ∙ open_from A x unknown f ∙ sym (forced_member K r x force).1 ∙ ap (is_open K) (sym e)
        | inr b ↦ not_open A m b.0 ∙ sym (not_open K m g)
      ]
    ]) in
    forced_from A r x (record { none_true = no_true; the_open = same_open ∙ force.the_open })

pub record Marked (Q : ℤ → Bool) (c : List ℤ) : Type 0 where
  pub marks : (m : ℤ) → is_fact c m ≡ true → Q (neg_ℤ m) ≡ true

runs_step : (look : Hint → Option (List ℤ)) (A : List ℤ) (G : List Hint) (c : List ℤ) (x : ℤ) (h g : Hint) → look h ≡ Some c → forced A c ≡ Some x → ends_in_conflict look A (h ∷ g ∷ G) ≡ ends_in_conflict look (x ∷ A) (g ∷ G)
runs_step look A G c x h g e f =
    ap (λ o. elim o as (λ _. Bool) [ None ↦ false | Some d ↦ elim (forced A d) as (λ _. Bool) [ None ↦ false | Some l ↦ ends_in_conflict look (l ∷ A) (g ∷ G) ] ]) e
    ∙ ap (λ o. elim o as (λ _. Bool) [ None ↦ false | Some l ↦ ends_in_conflict look (l ∷ A) (g ∷ G) ]) f

module _ (look : Hint → Option (List ℤ)) (kept : ℤ → Bool) (T : List ℤ) where
  -- a false clause begins it
  pub refutes_start : (Q : ℤ → Bool) (c : List ℤ) (h : Hint) → look h ≡ Some c → Marked Q c → ((l : ℤ) → Q l ≡ true → is_fact T l ≡ true) → Refutes look kept T (length T) Q (h ∷ [])
  refutes_start Q c h e marked inside = record {
    inside = inside;
    runs = λ A w has only.
        let all : take (length T) T ≡ T = take_all (length T) T (omega arith) in
        let false_there : is_falsified A c ≡ true = all_from (is_refuted A) c (λ m k.
        let q : Q (neg_ℤ m) ≡ true = marked.marks m k in
        has (neg_ℤ m) q (inl (rw all (inside (neg_ℤ m) q)))) in
        ap (λ o. elim o as (λ _. Bool) [ None ↦ false | Some d ↦ is_falsified A d ]) e ∙ false_there;
  }

  -- a place that isn't marked, or is kept, is passed
  pub refutes_pass : (Q : ℤ → Bool) (H : List Hint) (j : ℕ) → j < length T → ((Q (get_or T j (pos 0)) ≡ true → kept (get_or T j (pos 0)) ≡ true)) → Refutes look kept T (suc j) Q H → Refutes look kept T j Q H
  refutes_pass Q H j h unmarked r = record {
    inside = r.inside;
    runs = λ A w has only. r.runs A w
        (λ l q k. has l q (elim k [
          | inl a ↦ elim (known_next T j h l a) [ inl b ↦ inl b | inr e ↦ inr (ap kept e ∙ unmarked (ap Q (sym e) ∙ q)) ]
          | inr a ↦ inr a
        ]))
        (λ l k. elim (only l k) [ inl a ↦ inl (known_up T j h l a) | inr a ↦ inr a ]);
  }

  -- a marked literal is resolved with its reason
  pub refutes_resolve : IsConsistent T → (Q P : ℤ → Bool) (H : List Hint) (j : ℕ) (c : List ℤ) (h : Hint) → j < length T → look h ≡ Some c
      → forced (take j T) c ≡ Some (get_or T j (pos 0)) → kept (get_or T j (pos 0)) ≡ false
      → ((l : ℤ) → Q l ≡ true → P l ≡ true) → ((l : ℤ) → P l ≡ true → is_fact T l ≡ true) → ((m : ℤ) → is_fact c m ≡ true → (m ≡ get_or T j (pos 0)) ⊎ (P (neg_ℤ m) ≡ true))
      → Refutes look kept T (suc j) Q H → Refutes look kept T j P (h ∷ H)
  refutes_resolve apart Q P H j c h small e force loose grows inside marked r = record {
    inside = inside;
    runs = λ A w has only.
        let x : ℤ = get_or T j (pos 0) in
        let parts : Forces (take j T) c x = forces_from (take j T) c x force in
        let there : is_fact T x ≡ true = known_at T j small in
        let opened = open_parts (take j T) x (forced_member (take j T) c x parts).1 in
        let unknown : is_fact A x ≡ false = false_from_ne_true (is_fact A x) (λ k. elim (only x k) [
          | inl a ↦ false≢true (sym opened.0 ∙ a)
          | inr a ↦ false≢true (sym loose ∙ a)
        ]) in
        let not_false : is_refuted A x ≡ false = false_from_ne_true (is_refuted A x) (λ k. apart.apart x there (w.sub (neg_ℤ x) k)) in
        let agree : forced A c ≡ Some x = forced_agree (take j T) A c x force
        (λ m k. elim (forced_others (take j T) c x parts m k) [
          | inl s ↦ inl s
          | inr g ↦ elim (marked m k) [
            | inl s ↦ inl s
            | inr q ↦ inr (has (neg_ℤ m) q (inl g), false_from_ne_true (is_fact A m) (λ t. apart.apart m (w.sub m t) (take_known T j (neg_ℤ m) g)))
          ]
        ]) unknown not_false in
        let rest : ends_in_conflict look (x ∷ A) H ≡ true = r.runs (x ∷ A)
        (record { sub = λ l k. elim (known_cases x l A k) [ inl s ↦ ap (is_fact T) s ∙ there | inr a ↦ w.sub l a ] })
        (λ l q k. elim k [
          | inl a ↦ elim (known_next T j small l a) [
            | inl b ↦ known_later x l A (has l (grows l q) (inl b))
            | inr s ↦ known_same x l A s
          ]
          | inr a ↦ known_later x l A (has l (grows l q) (inr a))
        ])
        (λ l k. elim (known_cases x l A k) [
          | inl s ↦ inl (ap (is_fact (take (suc j) T)) s ∙ known_last T j small)
          | inr a ↦ elim (only l a) [ inl b ↦ inl (known_up T j small l b) | inr b ↦ inr b ]
        ]) in
        before A x H rest agree;
  }
    where
      before : (A : List ℤ) (x : ℤ) (G : List Hint) → ends_in_conflict look (x ∷ A) G ≡ true → forced A c ≡ Some x → ends_in_conflict look A (h ∷ G) ≡ true
      before A x [] s f = absurd (false≢true s)
      before A x (g ∷ G) s f = runs_step look A G c x h g e f ∙ s

  -- at the end the kept literals are the negations of a clause that follows by the hints
  pub refutes_end : (Q : ℤ → Bool) (H : List Hint) (d : List ℤ) → Refutes look kept T 0 Q H
      → Within (map neg_ℤ d) T → ((l : ℤ) → Q l ≡ true → kept l ≡ true → is_fact (map neg_ℤ d) l ≡ true) → ((l : ℤ) → is_fact (map neg_ℤ d) l ≡ true → kept l ≡ true)
      → ends_in_conflict look (map neg_ℤ d) H ≡ true
  refutes_end Q H d r w has only = r.runs (map neg_ℤ d) w
      (λ l q k. elim k [ inl a ↦ absurd (false≢true a) | inr a ↦ has l q a ])
      (λ l k. inr (only l k))

-- one more literal is kept, and places are passed at which all that is marked is kept
pub refutes_jump : (look : Hint → Option (List ℤ)) (kept also Q : ℤ → Bool) (T : List ℤ) (H : List Hint) (j e : ℕ)
    → ((l : ℤ) → kept l ≡ true → also l ≡ true) → ((l : ℤ) → also l ≡ true → (is_fact (take j T) l ≡ true) ⊎ (kept l ≡ true))
    → ((l : ℤ) → is_fact (take e T) l ≡ true → is_fact (take j T) l ≡ true)
    → ((l : ℤ) → Q l ≡ true → is_fact (take j T) l ≡ true → (is_fact (take e T) l ≡ true) ⊎ (also l ≡ true))
    → Refutes look kept T j Q H → Refutes look also T e Q H
refutes_jump look kept also Q T H j e more held back passed r = record {
  inside = r.inside;
  runs = λ A w has only. r.runs A w
      (λ l q k. elim k [ inl a ↦ has l q (passed l q a) | inr a ↦ has l q (inr (more l a)) ])
      (λ l k. elim (only l k) [ inl a ↦ inl (back l a) | inr a ↦ held l a ]);
}

-- where a literal first stands
at_head : (x l : ℤ) (T : List ℤ) → int_eq l x ≡ true → (e : ℕ) → is_fact (take e (x ∷ T)) l ≡ nat_lt 0 e
at_head x l T h zero = refl
at_head x l T h (suc e) = ap (λ b. b || is_fact (take e T) l) h ∙ sym (lt-ltb 0 (suc e) (omega arith))

one_more : (p e : ℕ) → nat_lt p e ≡ nat_lt (suc p) (suc e)
one_more p e = elim (cases_lt p e) [
  | inl h ↦ lt-ltb p e h ∙ sym (lt-ltb (suc p) (suc e) (omega arith))
  | inr h ↦ false_from_ne_true (nat_lt p e) (λ t. let s = ltb-true p e t in omega arith) ∙ sym (false_from_ne_true (nat_lt (suc p) (suc e)) (λ t. let s = ltb-true (suc p) (suc e) t in omega arith))
]

behind : (x l : ℤ) (T : List ℤ) (p : ℕ) → int_eq l x ≡ false → ((e : ℕ) → is_fact (take e T) l ≡ nat_lt p e) → (e : ℕ) → is_fact (take e (x ∷ T)) l ≡ nat_lt (suc p) e
behind x l T p f first zero = sym (false_from_ne_true (nat_lt (suc p) 0) (λ t. let s = ltb-true (suc p) 0 t in omega arith))
behind x l T p f first (suc e) = ap (λ b. b || is_fact (take e T) l) f ∙ first e ∙ one_more p e

first_place : (T : List ℤ) (l : ℤ) → is_fact T l ≡ true → (p : ℕ) × ((e : ℕ) → is_fact (take e T) l ≡ nat_lt p e)
first_place [] l h = absurd (false≢true h)
first_place (x ∷ T) l h = elim (cases_Bool (int_eq l x)) [
  | inl e ↦ (0, at_head x l T e)
  | inr f ↦ let r = first_place T l (sym (ap (λ b. b || is_fact T l) f) ∙ h) in (suc r.0, behind x l T r.0 f r.1)
]

-- places are passed at which nothing is marked
pub refutes_skip : (look : Hint → Option (List ℤ)) (kept Q : ℤ → Bool) (at : ℕ → Bool) (T : List ℤ) (H : List Hint) (j e : ℕ) → e ≤ j → HavePlaces T Q at → ((k : ℕ) → e ≤ k → k < j → at k ≡ false)
    → Refutes look kept T j Q H → Refutes look kept T e Q H
refutes_skip look kept Q at T H j e h have none =
    refutes_jump look kept kept Q T H j e (λ l k. k) (λ l k. inr k)
    (λ l k.
    let first = first_place T l (take_known T e l k) in
    let low : first.0 < e = ltb-true first.0 e (sym (first.1 e) ∙ k) in
    first.1 j ∙ lt-ltb first.0 j (omega arith))
    (λ l q k.
    let first = first_place T l (take_known T j l k) in
    let low : first.0 < j = ltb-true first.0 j (sym (first.1 j) ∙ k) in
    inl (elim (cases_lt first.0 e) [
      | inl a ↦ first.1 e ∙ lt-ltb first.0 e a
      | inr a ↦ absurd (false≢true (sym (none first.0 a low) ∙ have l first.0 q first.1))
    ]))
