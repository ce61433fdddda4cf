-- Counts that are cut early are cut to the same.
use Rattle.std.proofs.Common.{◌≡◌, ◌+◌, ◌*◌, ◌≤◌, ◌⊎◌, ℕ, zero, suc, inl, inr, refl, sym, ap, ◌∙◌, arith}
use Rattle.std.proofs.lemmas.Bool.Decides.{nat_tests}
use Rattle.std.proofs.Math.Nat.{mul-le-mul}
use Rattle.solv_rich.specs.Counts.{saturated}

pub sums : (a b : ℕ) → saturated (saturated a + saturated b) ≡ saturated (a + b)
sums a b = grind (arith, nat_tests)

cut_or_not : (a : ℕ) → ((saturated a ≡ a) × (a ≤ 65537)) ⊎ ((saturated a ≡ 65537) × (65537 ≤ a))
cut_or_not a = grind (arith, nat_tests)

all_cut : (n : ℕ) → 65537 ≤ n → saturated n ≡ 65537
all_cut n h = grind (arith, nat_tests, h)

times_zero : (a : ℕ) → a * 0 ≡ 0
times_zero a = grind arith

zero_times : (a : ℕ) → 0 * a ≡ 0
zero_times a = grind arith

big : (a b : ℕ) → 65537 ≤ a → 1 ≤ b → 65537 ≤ a * b
big a b h k = let m : 65537 * 1 ≤ a * b = mul-le-mul h k in omega (arith, m)

big' : (a b : ℕ) → 1 ≤ a → 65537 ≤ b → 65537 ≤ a * b
big' a b h k = let m : 1 * 65537 ≤ a * b = mul-le-mul h k in omega (arith, m)

zero_or : (b : ℕ) → (b ≡ 0) ⊎ (1 ≤ b)
zero_or zero = inl refl
zero_or (suc b) = inr (omega arith)

some : (b : ℕ) → 1 ≤ b → 1 ≤ saturated b
some b h = grind (arith, nat_tests, h)

pub products : (a b : ℕ) → saturated (saturated a * saturated b) ≡ saturated (a * b)
products a b = elim (cut_or_not a) [
  | inr x ↦ elim (zero_or b) [
    | inl z ↦ ap (λ n. saturated (saturated a * saturated n)) z ∙ ap saturated (times_zero (saturated a) ∙ sym (times_zero a)) ∙ sym (ap (λ n. saturated (a * n)) z)
    | inr o ↦ (let h : 65537 ≤ saturated a = (let e = x.0 in omega (arith, e)) in all_cut (saturated a * saturated b) (big (saturated a) (saturated b) h (some b o)) ∙ sym (all_cut (a * b) (big a b x.1 o)))
  ]
  | inl x ↦ elim (cut_or_not b) [
    | inl y ↦ ap saturated (ap (λ n. n * saturated b) x.0 ∙ ap (λ n. a * n) y.0)
    | inr y ↦ elim (zero_or a) [
      | inl z ↦ ap (λ n. saturated (saturated n * saturated b)) z ∙ ap saturated (zero_times (saturated b) ∙ sym (zero_times b)) ∙ sym (ap (λ n. saturated (n * b)) z)
      | inr o ↦ (let h : 65537 ≤ saturated b = (let e = y.0 in omega (arith, e)) in all_cut (saturated a * saturated b) (big' (saturated a) (saturated b) (some a o) h) ∙ sym (all_cut (a * b) (big' a b o y.1)))
    ]
  ]
]
