-- Propagation, then a choice.
use Rattle.std.proofs.Common.{◌≡◌, ℕ, ◌+◌, ◌<◌, ◌≤◌, Bool, true, false, List, [], ◌∷◌, ◌++◌, length, take, get_or, Option, Some, None, inl, inr, refl, sym, ap, ◌∙◌, subst, arith}
use Rattle.std.specs.Prelude.{ℤ, pos, nat_lt, nat_le, option_map}
use Rattle.std.proofs.lemmas.Bool.{cases_lt, lt-ltb, le-leb, and_from}
use Rattle.std.proofs.lemmas.List.{take-append-le, take-take, take_at, get_or-take, get_or_append_left, get_or_push, length_push}
use Rattle.solv_pool.specs.Prelude.{is_fact, is_refuted, names_package}
use Rattle.solv_trail.specs.Inner.Derivation.{IsConsistent, IsTrail}
use Rattle.solv_trail.specs.Inner.Held.{Held}
use Rattle.solv_trail.specs.Inner.Used.{used_clauses}
use Rattle.solv_trail.specs.Inner.Propagated.{IsUsed, choice, by_rule, IsReasoned, IsAtRest, IsGrown, Propagated, clash, rest}
use Rattle.solv_trail.specs.Descends.{asked_pack}
use Rattle.solv_trail.specs.Inner.Descends.{AreAsked, IsKept, Ended, clash as ended_clash}
use Rattle.solv_trail.specs.declared.questions.Ask.{Ask}
use Rattle.solv_trail.proofs.Trails.{trail_choose}
use Rattle.solv_trail.proofs.Runs.{grown_trail, rest_quiet}

module _ (rules : List (List ℤ)) (used : ℕ → Bool) where
  pub rest_of : (lits : List ℤ) → Propagated rules used lits None → (r : ℕ) → r < length rules → IsAtRest rules used lits r
  rest_of lits (rest h) = h

  pub clash_of : (asks : (ℤ → Bool) → Option Ask) (lits : List ℤ) (r : ℕ) → Propagated rules used lits (Some r) → Ended rules used asks lits (Some r)
  clash_of asks lits r (clash n c u f) = ended_clash n c u f

  pub reasoned_choose : (held : Held) (x : ℤ) (m : ℕ) (a : Ask) → IsReasoned rules used held → IsReasoned rules used (record held { lits = held.lits ++ x ∷ []; reasons = held.reasons ++ m ∷ []; marks = held.marks ++ length held.lits ∷ []; questions = held.questions ++ a.question ∷ [] })
  reasoned_choose held x m a r =
      let long : length (held.lits ++ x ∷ []) ≡ length held.lits + 1 = length_push held.lits x in
      let marks : length (held.marks ++ length held.lits ∷ []) ≡ length held.marks + 1 = length_push held.marks (length held.lits) in
      record {
        sizes = length_push held.reasons m ∙ ap (λ v. v + 1) r.sizes ∙ sym long;
        each = λ j h. elim (cases_lt j (length held.lits)) [
          | inl small ↦
              let t : take j (held.lits ++ x ∷ []) ≡ take j held.lits = take-append-le j held.lits (x ∷ []) (omega arith) in
              let g : get_or (held.lits ++ x ∷ []) j (pos 0) ≡ get_or held.lits j (pos 0) = get_or_append_left held.lits (x ∷ []) (pos 0) j small in
              let e : get_or (held.reasons ++ m ∷ []) j 0 ≡ get_or held.reasons j 0 = get_or_append_left held.reasons (m ∷ []) 0 j (omega (arith, r.sizes)) in
              elim (r.each j small) [
                | choice k h2 b ↦ choice k (omega arith) (get_or_append_left held.marks (length held.lits ∷ []) 0 k h2 ∙ b)
                | by_rule d v q ↦ by_rule d (let P : ℕ → Type 0 = λ n. IsUsed rules used n d in subst P (sym e) v) (rw (t, g) q)
              ]
          | inr large ↦
              let e : length held.lits ≡ j = omega arith in
              choice (length held.marks) (omega arith) (get_or_push held.marks (length held.lits) 0 (length held.marks) refl ∙ e)
        ];
      }

  -- a choice at rest
  pub chosen_trail : (asks : (ℤ → Bool) → Option Ask) (held : Held) (a : Ask) → IsTrail (used_clauses used rules) (asked_pack asks) held.lits held.marks → ((r : ℕ) → r < length rules → IsAtRest rules used held.lits r)
      → asks (is_fact held.lits) ≡ Some a → 0 < a.pack → is_fact held.lits (pos a.pack) ≡ false → is_refuted held.lits (pos a.pack) ≡ false
      → IsTrail (used_clauses used rules) (asked_pack asks) (held.lits ++ pos a.pack ∷ []) (held.marks ++ length held.lits ∷ [])
  chosen_trail asks held a trail quiet asked some unknown loose =
      trail_choose (used_clauses used rules) (asked_pack asks) held.lits held.marks a.pack trail (rest_quiet used held.lits rules quiet) (ap (option_map (λ v. v.pack)) asked) some unknown loose

-- what was asked stays beside the choices
pub asked_grown : (rules : List (List ℤ)) (used : ℕ → Bool) (asks : (ℤ → Bool) → Option Ask) (old new : Held) → IsGrown rules used old new → AreAsked asks old → AreAsked asks new
asked_grown rules used asks old new grown h = record {
  sizes = ap length grown.questions ∙ h.sizes ∙ sym (ap length grown.marks);
  within = λ k l. let w : get_or old.marks k 0 < length old.lits = h.within k (rw (← grown.marks) l) in rw grown.marks (omega (arith, grown.longer));
  each = λ k l.
      let small : k < length old.marks = rw (← grown.marks) l in
      let one = h.each k small in
      let m : ℕ = get_or old.marks k 0 in
      let inside : m < length old.lits = h.within k small in
      let same : get_or new.marks k 0 ≡ m = ap (λ v. get_or v k 0) grown.marks in
      let t : take m new.lits ≡ take m old.lits = sym (take-take m (length old.lits) new.lits (omega arith)) ∙ ap (take m) grown.front in
      let g : get_or new.lits m (pos 0) ≡ get_or old.lits m (pos 0) = sym (get_or-take (length old.lits) new.lits m (pos 0) inside) ∙ ap (λ v. get_or v m (pos 0)) grown.front in (
        one.0,
        record {
          kept = λ d. ap (λ v. get_or v k d) grown.questions ∙ one.1.kept d;
          asked = ap (λ v. asks (is_fact (take v new.lits))) same ∙ ap (λ v. asks (is_fact v)) t ∙ one.1.asked;
          is = ap (λ v. get_or new.lits v (pos 0)) same ∙ g ∙ one.1.is;
        },
      );
}

pub asked_choose : (asks : (ℤ → Bool) → Option Ask) (held : Held) (m : ℕ) (a : Ask) → AreAsked asks held → asks (is_fact held.lits) ≡ Some a
    → AreAsked asks (record held { lits = held.lits ++ pos a.pack ∷ []; reasons = held.reasons ++ m ∷ []; marks = held.marks ++ length held.lits ∷ []; questions = held.questions ++ a.question ∷ [] })
asked_choose asks held m a h now =
    let long : length (held.lits ++ pos a.pack ∷ []) ≡ length held.lits + 1 = length_push held.lits (pos a.pack) in
    let many : length (held.marks ++ length held.lits ∷ []) ≡ length held.marks + 1 = length_push held.marks (length held.lits) in
    record {
      sizes = length_push held.questions a.question ∙ ap (λ v. v + 1) h.sizes ∙ sym many;
      within = λ k l. elim (cases_lt k (length held.marks)) [
        | inl small ↦ let w : get_or held.marks k 0 < length held.lits = h.within k small in rw (get_or_append_left held.marks (length held.lits ∷ []) 0 k small) (omega arith)
        | inr large ↦ let e : length held.marks ≡ k = omega arith in rw (get_or_push held.marks (length held.lits) 0 k e) (omega arith)
      ];
      each = λ k l. elim (cases_lt k (length held.marks)) [
        | inl small ↦
            let one = h.each k small in
            let x : ℕ = get_or held.marks k 0 in
            let inside : x < length held.lits = h.within k small in
            let same : get_or (held.marks ++ length held.lits ∷ []) k 0 ≡ x = get_or_append_left held.marks (length held.lits ∷ []) 0 k small in (
              one.0,
              record {
                kept = λ d. get_or_append_left held.questions (a.question ∷ []) d k (omega (arith, h.sizes)) ∙ one.1.kept d;
                asked = ap (λ v. asks (is_fact (take v (held.lits ++ pos a.pack ∷ [])))) same ∙ ap (λ v. asks (is_fact v)) (take-append-le x held.lits (pos a.pack ∷ []) (omega arith)) ∙ one.1.asked;
                is = ap (λ v. get_or (held.lits ++ pos a.pack ∷ []) v (pos 0)) same ∙ get_or_append_left held.lits (pos a.pack ∷ []) (pos 0) x inside ∙ one.1.is;
              },
            )
        | inr large ↦
            let e : length held.marks ≡ k = omega arith in
            let same : get_or (held.marks ++ length held.lits ∷ []) k 0 ≡ length held.lits = get_or_push held.marks (length held.lits) 0 k e in (
              a,
              record {
                kept = λ d. get_or_push held.questions a.question d k (h.sizes ∙ e);
                asked = ap (λ v. asks (is_fact (take v (held.lits ++ pos a.pack ∷ [])))) same ∙ ap (λ v. asks (is_fact v)) (take_at held.lits (pos a.pack ∷ []) (length held.lits) refl) ∙ now;
                is = ap (λ v. get_or (held.lits ++ pos a.pack ∷ []) v (pos 0)) same ∙ get_or_push held.lits (pos a.pack) (pos 0) (length held.lits) refl;
              },
            )
      ];
    }

-- what holds between conflicts stays so when propagation adds literals, and at a choice
pub kept_grown : (rules : List (List ℤ)) (used : ℕ → Bool) (asks : (ℤ → Bool) → Option Ask) (old new : Held) → IsKept rules used asks old → IsConsistent new.lits → IsGrown rules used old new → IsKept rules used asks new
kept_grown rules used asks old new h apart grown = record {
  reasoned = grown.reasoned h.reasoned;
  trail = grown_trail used rules (asked_pack asks) old new h.trail h.reasoned apart grown;
  asked = asked_grown rules used asks old new grown h.asked;
}

pub kept_chosen : (rules : List (List ℤ)) (used : ℕ → Bool) (asks : (ℤ → Bool) → Option Ask) (held : Held) (a : Ask) (m : ℕ) → IsKept rules used asks held → ((r : ℕ) → r < length rules → IsAtRest rules used held.lits r)
    → asks (is_fact held.lits) ≡ Some a → 0 < a.pack → is_fact held.lits (pos a.pack) ≡ false → is_refuted held.lits (pos a.pack) ≡ false
    → IsKept rules used asks (record held { lits = held.lits ++ pos a.pack ∷ []; reasons = held.reasons ++ m ∷ []; marks = held.marks ++ length held.lits ∷ []; questions = held.questions ++ a.question ∷ [] })
kept_chosen rules used asks held a m h quiet now some unknown loose = record {
  reasoned = reasoned_choose rules used held (pos a.pack) m a h.reasoned;
  trail = chosen_trail rules used asks held a h.trail quiet now some unknown loose;
  asked = asked_choose asks held m a h.asked now;
}

pub names_pos : (count p : ℕ) → 0 < p → p ≤ count → names_package count (pos p) ≡ true
names_pos count p h k = and_from (nat_lt 0 p) (nat_le p count) (lt-ltb 0 p h) (le-leb p count k)
