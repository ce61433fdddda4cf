-- The packages that are known in, as a set.
use Rattle.std.proofs.Common.{◌≡◌, ℕ, ◌*◌, ◌<◌, ◌≤◌, Bool, true, false, not, ◌&&◌, ◌||◌, List, [], ◌∷◌, ◌++◌, length, eqb, ◌⊎◌, inl, inr, refl, eq-eqb, sym, ap, ◌∙◌, arith}
use Rattle.std.specs.Prelude.{ℤ, pos, negsuc, nat_abs, int_lt}
use Rattle.std.specs.Ordering.{int_eq}
use Rattle.std.proofs.lemmas.Bool.{cases_Bool, cases_eq, ltb-false}
use Rattle.solv_pool.specs.Prelude.{is_fact, names_package}
use Rattle.solv_derive.proofs.Facts.{same_self}
use Rattle.solv_derive.proofs.Tables.{names_parts, known_push}
use Rattle.solv_trail.specs.Inner.Numbers.{has}
use Rattle.solv_trail.specs.Inner.Held.{IsHeld, AreIn}
use Rattle.solv_trail.proofs.Bits.{ne-eqb}
use Rattle.solv_trail.proofs.Holding.{popped_alone, popped_over}
use Rattle.solv_list.proofs.Numbers.{same_integer}

pub nat_as_int : (k n : ℕ) → eqb k n ≡ int_eq (pos k) (pos n)
nat_as_int k n = elim (cases_eq k n) [
  | inl e ↦ eq-eqb k n e ∙ sym (ap (λ v. int_eq (pos v) (pos n)) e ∙ same_self (pos n))
  | inr differ ↦ ne-eqb k n differ ∙ sym (other differ (cases_Bool (int_eq (pos k) (pos n))))
]
  where
    other : (k ≡ n → ⊥) → ((int_eq (pos k) (pos n) ≡ true) ⊎ (int_eq (pos k) (pos n) ≡ false)) → int_eq (pos k) (pos n) ≡ false
    other differ (inl e) = absurd (differ (ap nat_abs (same_integer (pos k) (pos n) e)))
    other differ (inr e) = e

-- the package of a literal that says "in"
pub package_in : (l : ℤ) (k : ℕ) → int_lt (pos 0) l ≡ true → eqb k (nat_abs l) ≡ int_eq (pos k) l
package_in (pos n) k h = nat_as_int k n
package_in (negsuc n) k h = absurd (cc)

-- a literal that says "out" is of no package that is in
pub package_out : (l : ℤ) (k : ℕ) → 0 < nat_abs l → int_lt (pos 0) l ≡ false → int_eq (pos k) l ≡ false
package_out (pos n) k some h = let none : n ≤ 0 = ltb-false 0 n h in absurd (omega arith)
package_out (negsuc n) k some h = refl

pub one_more_in : (count : ℕ) (words new : List ℕ) (lits : List ℤ) (l : ℤ) → AreIn count words lits → length new ≡ length words → ((k : ℕ) → has new k ≡ (int_eq (pos k) l || has words k)) → AreIn count new (lits ++ l ∷ [])
one_more_in count words new lits l are long marked = record {
  space = let s : count < 64 * length words = are.space in omega arith;
  each = λ k. marked k ∙ ap (λ b. int_eq (pos k) l || b) (are.each k) ∙ known_push lits l (pos k);
}

pub one_less_in : (count : ℕ) (values places : List ℕ) (lits : List ℤ) (l : ℤ) (reasons : List ℕ) (r : ℕ) (marks : List ℕ) → IsHeld count values places (lits ++ l ∷ []) (reasons ++ r ∷ []) marks
    → (words new : List ℕ) → AreIn count words (lits ++ l ∷ []) → length new ≡ length words → ((k : ℕ) → has new k ≡ (not (int_eq (pos k) l) && has words k)) → AreIn count new lits
one_less_in count values places lits l reasons r marks held words new are long unmarked = record {
  space = let s : count < 64 * length words = are.space in omega arith;
  each = λ k. unmarked k ∙ ap (λ b. not (int_eq (pos k) l) && b) (are.each k ∙ sym (known_push lits l (pos k))) ∙ left k (int_eq (pos k) l) refl (is_fact lits (pos k)) refl;
}
  where
    left : (k : ℕ) (b : Bool) → int_eq (pos k) l ≡ b → (f : Bool) → is_fact lits (pos k) ≡ f → (not b && (b || f)) ≡ f
    left k false e f g = refl
    left k true e false g = refl
    left k true e true g = absurd (popped_alone count values places lits l reasons r marks held (pos k) g (ap nat_abs (same_integer (pos k) l e)))

-- a literal over the packages has its place in the set
pub fits_in : (count : ℕ) (words : List ℕ) (lits : List ℤ) (l : ℤ) → AreIn count words lits → names_package count l ≡ true → (0 < nat_abs l) × (nat_abs l < 64 * length words)
fits_in count words lits l are over = let p = names_parts count l over in let s : count < 64 * length words = are.space in (p.0, omega (arith, p.1))

pub last_over : (count : ℕ) (values places : List ℕ) (lits : List ℤ) (l : ℤ) (reasons : List ℕ) (r : ℕ) (marks : List ℕ) → IsHeld count values places (lits ++ l ∷ []) (reasons ++ r ∷ []) marks → names_package count l ≡ true
last_over count values places lits l reasons r marks held = (popped_over count values places lits l reasons r marks held).1
