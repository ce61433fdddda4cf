-- Numbers that are taken out of a set one after another.
use Rattle.std.proofs.Common.{◌≡◌, ℕ, ◌+◌, ◌<◌, ◌≤◌, false, not, ◌&&◌, List, eqb, None, inl, inr, ap, ◌∙◌, arith}
use Rattle.std.proofs.lemmas.Bool.{cases_lt, cases_eq, eq-eqb}
use Rattle.solv_trail.specs.Inner.Numbers.{has, IsFirst}
use Rattle.solv_trail.proofs.Bits.{ne-eqb}

-- none below the first one and itself is left
pub one_out : (before after : List ℕ) (from place : ℕ) → ((k : ℕ) → k < from → has before k ≡ false) → ((k : ℕ) → from ≤ k → k < place → has before k ≡ false)
    → ((k : ℕ) → has after k ≡ (not (eqb k place) && has before k)) → (k : ℕ) → k < place + 1 → has after k ≡ false
one_out before after from place low between taken k small = taken k ∙ elim (cases_eq k place) [
  | inl same ↦ ap (λ b. not b && has before k) (eq-eqb k place same)
  | inr other ↦ ap (λ b. not b && has before k) (ne-eqb k place other) ∙ elim (cases_lt k from) [
    | inl below ↦ low k below
    | inr above ↦ between k above (omega arith)
  ]
]

-- none is left
pub all_out : (places : List ℕ) (from : ℕ) → ((k : ℕ) → k < from → has places k ≡ false) → IsFirst (has places) from None → (k : ℕ) → has places k ≡ false
all_out places from low none k = elim (cases_lt k from) [ inl below ↦ low k below | inr above ↦ none k above ]
