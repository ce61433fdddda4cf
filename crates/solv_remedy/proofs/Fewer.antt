-- How many numbers pass a test.
use Rattle.std.proofs.Common.{◌≡◌, ◌<◌, ◌≤◌, ℕ, suc, Bool, true, false, not, ◌||◌, List, [], ◌∷◌, cond, inl, inr, refl, sym, ap, ◌∙◌, arith, eq-eqb, length}
use Rattle.std.specs.Prelude.{◌==◌, filter}
use Rattle.std.proofs.lemmas.Bool.{or_cases, false≢true, eqb-true}
use Rattle.solv_pool.specs.Prelude.{is_among}

pub no_longer : (p : ℕ → Bool) (xs : List ℕ) → length (filter p xs) ≤ length xs
no_longer p [] = omega arith
no_longer p (x ∷ xs) = by (p x) (no_longer p xs)
  where
    by : (b : Bool) → length (filter p xs) ≤ length xs → length (cond b (x ∷ filter p xs) (filter p xs)) ≤ suc (length xs)
    by true h = omega (arith, h)
    by false h = omega (arith, h)

-- one that is there makes it shorter
pub shorter : (rule : ℕ) (xs : List ℕ) → is_among xs rule ≡ true → length (filter (λ k. not (rule == k)) xs) < length xs
shorter rule [] h = absurd (false≢true h)
shorter rule (x ∷ xs) h = by (rule == x) refl (λ g. shorter rule xs g)
  where
    by : (b : Bool) → (rule == x) ≡ b → (is_among xs rule ≡ true → length (filter (λ k. not (rule == k)) xs) < length xs) → length (cond (not b) (x ∷ filter (λ k. not (rule == k)) xs) (filter (λ k. not (rule == k)) xs)) < suc (length xs)
    by true e go = let n = no_longer (λ k. not (rule == k)) xs in omega (arith, n)
    by false e go = elim (or_cases (x == rule) (is_among xs rule) h) [
      | inl same ↦ absurd (false≢true (sym e ∙ eq-eqb rule x (sym (eqb-true x rule same))))
      | inr later ↦ let g = go later in omega (arith, g)
    ]

module _ (p q : ℕ → Bool) (narrower : (k : ℕ) → q k ≡ true → p k ≡ true) where
  both : (s t : Bool) (x : ℕ) (xs : List ℕ) → (t ≡ true → s ≡ true) → length (filter q xs) ≤ length (filter p xs) → length (cond t (x ∷ filter q xs) (filter q xs)) ≤ length (cond s (x ∷ filter p xs) (filter p xs))
  both true true x xs f h = omega (arith, h)
  both true false x xs f h = omega (arith, h)
  both false true x xs f h = absurd (false≢true (f refl))
  both false false x xs f h = h

  -- no more pass a test that lets fewer pass
  pub few : (xs : List ℕ) → length (filter q xs) ≤ length (filter p xs)
  few [] = omega arith
  few (x ∷ xs) = both (p x) (q x) x xs (narrower x) (few xs)

  less : (s t : Bool) (x : ℕ) (xs : List ℕ) → (t ≡ true → s ≡ true) → length (filter q xs) < length (filter p xs) → length (cond t (x ∷ filter q xs) (filter q xs)) < length (cond s (x ∷ filter p xs) (filter p xs))
  less true true x xs f h = omega (arith, h)
  less true false x xs f h = omega (arith, h)
  less false true x xs f h = absurd (false≢true (f refl))
  less false false x xs f h = h

  one : (s t : Bool) (x : ℕ) (xs : List ℕ) → s ≡ true → t ≡ false → length (filter q xs) ≤ length (filter p xs) → length (cond t (x ∷ filter q xs) (filter q xs)) < length (cond s (x ∷ filter p xs) (filter p xs))
  one true false x xs a b h = omega (arith, h)
  one true true x xs a b h = absurd (false≢true (sym b))
  one false t x xs a b h = absurd (false≢true a)

  -- and fewer, where one that is there passes no more
  pub fewer : (xs : List ℕ) (k : ℕ) → is_among xs k ≡ true → p k ≡ true → q k ≡ false → length (filter q xs) < length (filter p xs)
  fewer [] k there a b = absurd (false≢true there)
  fewer (x ∷ xs) k there a b = elim (or_cases (x == k) (is_among xs k) there) [
    | inl e ↦ let same = eqb-true x k e in one (p x) (q x) x xs (ap p same ∙ a) (ap q same ∙ b) (few xs)
    | inr later ↦ less (p x) (q x) x xs (narrower x) (fewer xs k later a b)
  ]
