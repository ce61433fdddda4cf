-- A trail grows by what rules in use force.
use Rattle.std.proofs.Common.{◌≡◌, ℕ, ◌+◌, Bool, List, [], ◌∷◌, ◌++◌, length, take, get_or, Some, inl, inr, refl, sym, ap, ◌∙◌, subst, arith}
use Rattle.std.specs.Prelude.{ℤ, pos}
use Rattle.std.proofs.lemmas.Bool.{cases_lt}
use Rattle.std.proofs.lemmas.List.{take-append-le, take_all, take_at, get_or_append_left, get_or_push, length_push}
use Rattle.solv_derive.specs.Forced.{forced}
use Rattle.solv_trail.specs.Inner.Held.{Held}
use Rattle.solv_trail.specs.Inner.Propagated.{IsUsed, choice, by_rule, IsReasoned, IsGrown}

module _ (rules : List (List ℤ)) (used : ℕ → Bool) where
  pub grown_self : (held : Held) → IsGrown rules used held held
  grown_self held = record { count = refl; marks = refl; questions = refl; longer = omega arith; front = take_all (length held.lits) held.lits (omega arith); reasoned = λ r. r }

  -- one more forced literal has a reason, and the others keep theirs
  reasoned_more : (held : Held) (rule : ℕ) (c : List ℤ) (x : ℤ) → IsUsed rules used rule c → forced held.lits c ≡ Some x → IsReasoned rules used held
      → IsReasoned rules used (record held { lits = held.lits ++ x ∷ []; reasons = held.reasons ++ rule ∷ [] })
  reasoned_more held rule c x u f r =
      let long : length (held.lits ++ x ∷ []) ≡ length held.lits + 1 = length_push held.lits x in
      record {
        sizes = length_push held.reasons rule ∙ ap (λ v. v + 1) r.sizes ∙ sym long;
        each = λ j h. elim (cases_lt j (length held.lits)) [
          | inl small ↦
              let t : take j (held.lits ++ x ∷ []) ≡ take j held.lits = take-append-le j held.lits (x ∷ []) (omega arith) in
              let g : get_or (held.lits ++ x ∷ []) j (pos 0) ≡ get_or held.lits j (pos 0) = get_or_append_left held.lits (x ∷ []) (pos 0) j small in
              let e : get_or (held.reasons ++ rule ∷ []) j 0 ≡ get_or held.reasons j 0 = get_or_append_left held.reasons (rule ∷ []) 0 j (omega (arith, r.sizes)) in
              elim (r.each j small) [
                | choice k a b ↦ choice k a b
                | by_rule d v q ↦ by_rule d (let P : ℕ → Type 0 = λ n. IsUsed rules used n d in subst P (sym e) v) (rw (t, g) q)
              ]
          | inr large ↦
              let e : length held.lits ≡ j = omega arith in
              let n : get_or (held.reasons ++ rule ∷ []) j 0 ≡ rule = get_or_push held.reasons rule 0 j (r.sizes ∙ e) in
              by_rule c (let P : ℕ → Type 0 = λ m. IsUsed rules used m c in subst P (sym n) u) (rw (take_at held.lits (x ∷ []) j e, get_or_push held.lits x (pos 0) j e) f)
        ];
      }

  pub grown_push : (old mid : Held) (rule : ℕ) (c : List ℤ) (x : ℤ) → IsUsed rules used rule c → forced mid.lits c ≡ Some x → IsGrown rules used old mid
      → IsGrown rules used old (record mid { lits = mid.lits ++ x ∷ []; reasons = mid.reasons ++ rule ∷ [] })
  grown_push old mid rule c x u f g =
      let long : length (mid.lits ++ x ∷ []) ≡ length mid.lits + 1 = length_push mid.lits x in
      record {
        count = g.count;
        marks = g.marks;
        questions = g.questions;
        longer = omega (arith, g.longer);
        front = take-append-le (length old.lits) mid.lits (x ∷ []) g.longer ∙ g.front;
        reasoned = λ r. reasoned_more mid rule c x u f (g.reasoned r);
      }
