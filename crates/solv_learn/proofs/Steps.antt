-- One step back, and where it starts.
use Rattle.std.proofs.Common.{◌≡◌, ℕ, zero, suc, ◌+◌, ◌-◌, ◌<◌, ◌≤◌, Bool, true, false, ◌&&◌, List, [], ◌∷◌, ◌++◌, length, take, get_or, Option, Some, inl, inr, refl, sym, ap, ◌∙◌, subst, arith, add-one}
use Rattle.std.specs.Prelude.{ℤ, pos, neg_ℤ, slice_get, nat_lt, nat_le, reverse}
use Rattle.std.specs.List.{list_all}
use Rattle.std.proofs.lemmas.Bool.{and_from, cases_Bool, false≢true, lt-ltb, le-leb, ltb-false, cond-true, cond-false}
use Rattle.std.proofs.lemmas.List.{reverse-append}
use Rattle.std.proofs.lemmas.List.Folds.{list_all-append}
use Rattle.solv_pool.specs.Prelude.{is_refuted}
use Rattle.solv_derive.specs.Forced.{is_falsified, forced}
use Rattle.solv_derive.specs.declared.logs.Hint.{Hint}
use Rattle.solv_derive.specs.declared.logs.Hint.TheVariants as hint
use Rattle.solv_derive.proofs.Facts.{forces_from, forced_others, all_member}
use Rattle.solv_trail.specs.Inner.Derivation.{IsConsistent}
use Rattle.solv_trail.specs.Inner.Held.{Held}
use Rattle.solv_trail.specs.Inner.Propagated.{IsUsed, choice, by_rule, IsReasoned}
use Rattle.solv_trail.proofs.Walk.{take_known}
use Rattle.solv_learn.specs.Inner.Collecting.{HasMarked}
use Rattle.solv_learn.specs.Inner.Refuting.{Refutes, Finds, hint_for, is_in_use}
use Rattle.solv_learn.proofs.Refuting.{refutes_start, refutes_pass, refutes_resolve}
use Rattle.solv_list.proofs.Answers.{one_clause}

pub get_within : (rules : List (List ℤ)) (r : ℕ) (c : List ℤ) → slice_get rules r ≡ Some c → r < length rules
get_within [] r c e = absurd (cc)
get_within (d ∷ rules) zero c e = omega arith
get_within (d ∷ rules) (suc r) c e = let k : r < length rules = get_within rules r c e in omega arith

-- the reason of a literal that was not chosen
pub record HasReason (rules : List (List ℤ)) (used : ℕ → Bool) (held : Held) (j : ℕ) : Type 0 where
  pub clause : List ℤ
  pub is : IsUsed rules used (get_or held.reasons j 0) clause
  pub forces : forced (take j held.lits) clause ≡ Some (get_or held.lits j (pos 0))

pub reason_of : (rules : List (List ℤ)) (used : ℕ → Bool) (held : Held) (j : ℕ) → IsReasoned rules used held → j < length held.lits → ((k : ℕ) → k < length held.marks → get_or held.marks k 0 ≡ j → ⊥) → HasReason rules used held j
reason_of rules used held j r h none = elim (r.each j h) [
  | choice k a b ↦ absurd (none k a b)
  | by_rule c u q ↦ record { clause = c; is = u; forces = q }
]

pub reasoned_any : (rules : List (List ℤ)) (used : ℕ → Bool) (held : Held) → IsReasoned rules used held → IsReasoned rules (λ r. true) held
reasoned_any rules used held r = record {
  sizes = r.sizes;
  each = λ j h. elim (r.each j h) [
    | choice k a b ↦ choice k a b
    | by_rule c u q ↦ by_rule c (record { found = u.found; on = refl }) q
  ];
}

-- a hint more, at the end of those found so far
pub reverse_push : (H : List Hint) (h : Hint) → reverse (H ++ h ∷ []) ≡ h ∷ reverse H
reverse_push H h = reverse-append H (h ∷ [])

module _ (rules : List (List ℤ)) (count base : ℕ) (look : Hint → Option (List ℤ)) (kept : ℤ → Bool) (finds : Finds look rules count base) where
  found_at : (r : ℕ) (c : List ℤ) → slice_get rules r ≡ Some c → look (hint_for count base r) ≡ Some c
  found_at r c e = finds r (get_within rules r c e) ∙ e

  pub start_refutes : (T : List ℤ) (Q P : ℤ → Bool) (r : ℕ) (c : List ℤ) (H : List Hint) → slice_get rules r ≡ Some c → is_falsified T c ≡ true → ((l : ℤ) → Q l ≡ false) → HasMarked T c Q P → H ≡ hint_for count base r ∷ [] → Refutes look kept T (length T) P (reverse H)
  start_refutes T Q P r c H e f none marked is =
      let R : List Hint → Type 0 = λ v. Refutes look kept T (length T) P (reverse v) in
      subst R (sym is) (refutes_start look kept T P c (hint_for count base r) (found_at r c e)
      (record { marks = λ m k. marked.marks m k (all_member (is_refuted T) c f m k) })
      (λ l p. (marked.nothing_else l p (none l)).1))

  pub step_passes : (T : List ℤ) (Q : ℤ → Bool) (H : List Hint) (j : ℕ) → j < length T → Q (get_or T j (pos 0)) ≡ false → Refutes look kept T (j + 1) Q H → Refutes look kept T j Q H
  step_passes T Q H j h unmarked r =
      let R : ℕ → Type 0 = λ v. Refutes look kept T v Q H in
      refutes_pass look kept T Q H j h (λ q. absurd (false≢true (sym unmarked ∙ q))) (subst R (add-one j) r)

  pub step_resolves : (T : List ℤ) → IsConsistent T → (Q P : ℤ → Bool) (H G : List Hint) (j r : ℕ) (c : List ℤ) → j < length T → slice_get rules r ≡ Some c → forced (take j T) c ≡ Some (get_or T j (pos 0)) → kept (get_or T j (pos 0)) ≡ false
      → HasMarked T c Q P → G ≡ H ++ hint_for count base r ∷ [] → Refutes look kept T (j + 1) Q (reverse H) → Refutes look kept T j P (reverse G)
  step_resolves T apart Q P H G j r c h e f loose marked is before =
      let R : ℕ → Type 0 = λ v. Refutes look kept T v Q (reverse H) in
      let S : List Hint → Type 0 = λ v. Refutes look kept T j P v in
      let x : ℤ = get_or T j (pos 0) in
      subst S (sym (ap reverse is ∙ reverse_push H (hint_for count base r)))
      (refutes_resolve look kept T apart Q P (reverse H) j c (hint_for count base r) h (found_at r c e) f loose marked.grows
      (λ l p. elim (cases_Bool (Q l)) [ inl q ↦ before.inside l q | inr q ↦ (marked.nothing_else l p q).1 ])
      (λ m k. elim (forced_others (take j T) c x (forces_from (take j T) c x f) m k) [
        | inl s ↦ inl s
        | inr g ↦ inr (marked.marks m k (take_known T j (neg_ℤ m) g))
      ])
      (subst R (add-one j) before))

pub hint_used : (used : ℕ → Bool) (count base all r : ℕ) → r < all → used r ≡ true → is_in_use used count base all (hint_for count base r) ≡ true
hint_used used count base all r h on = elim (cases_Bool (nat_lt r count)) [
  | inl t ↦
      ap (is_in_use used count base all) (cond-true (nat_lt r count) (hint.Book r) (hint.Step (base + (r - count))) t) ∙ and_from (nat_lt r count) (used r) t on
  | inr f ↦
      let low : count ≤ r = ltb-false r count f in
      let back : (base + (r - count)) - base ≡ r - count = omega arith in
      ap (is_in_use used count base all) (cond-false (nat_lt r count) (hint.Book r) (hint.Step (base + (r - count))) f)
      ∙ and_from (nat_le base (base + (r - count))) (nat_lt (count + ((base + (r - count)) - base)) all) (le-leb base (base + (r - count)) (omega arith)) (lt-ltb (count + ((base + (r - count)) - base)) all (omega arith))
]

pub hints_used : (used : ℕ → Bool) (count base all r : ℕ) (H G : List Hint) → r < all → used r ≡ true → G ≡ H ++ hint_for count base r ∷ [] → list_all (is_in_use used count base all) H ≡ true → list_all (is_in_use used count base all) G ≡ true
hints_used used count base all r H G h on is before =
    ap (list_all (is_in_use used count base all)) is ∙ list_all-append (is_in_use used count base all) H (hint_for count base r ∷ [])
    ∙ and_from (list_all (is_in_use used count base all) H) (is_in_use used count base all (hint_for count base r) && true) before
    (and_from (is_in_use used count base all (hint_for count base r)) true (hint_used used count base all r h on) refl)

-- the clause of a rule is the one that is found
pub same_clause : (rules : List (List ℤ)) (r : ℕ) (c d : List ℤ) → slice_get rules r ≡ Some c → slice_get rules r ≡ Some d → c ≡ d
same_clause rules r c d e f = one_clause (slice_get rules r) c d e f
