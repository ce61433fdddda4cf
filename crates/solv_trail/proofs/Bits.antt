-- Bits of words, and of sets of numbers.
use Rattle.std.proofs.Common.{◌≡◌, ℕ, zero, suc, ◌+◌, ◌-◌, ◌*◌, ◌/◌, ◌%◌, ◌^◌, ◌<◌, ◌≤◌, Bool, true, false, not, ◌&&◌, ◌||◌, List, [], length, get_or, set, eqb, ◌⊎◌, inl, inr, refl, sym, ap, ◌∙◌, arith, min, max, w64, get_or-set_same, get_or-set_other, eq-eqb}
use Rattle.std.specs.Prelude.{bit_and, bit_or, replicate, Option, None, Some}
use Rattle.std.specs.Int.{bit_at, trailing_zeros}
use Rattle.std.proofs.lemmas.Bool.{cases_Bool, cases_eq, cases_lt, eqb-true}
use Rattle.std.proofs.lemmas.List.{get_or-replicate, get_or_past, length-replicate}
use Rattle.std.proofs.lemmas.Nat.Bits.{bit_at_and, bit_at_or, bit_at_not, bit_at-lt, bit_at-zero, bit_at_above, bit_at_ones, bit_at_mask_inside, bit_at_mask_below, bit_at-trailing_zeros, bit_at_set_same, bit_at_set_other, bit_at_clear_same, bit_at_clear_other, ones_shl}
use Rattle.solv_trail.specs.Inner.Numbers.{has, IsFirst}
use Rattle.solv_list.proofs.Booleans.{and_true}

pub ne-eqb : (a b : ℕ) → (a ≡ b → ⊥) → eqb a b ≡ false
ne-eqb a b differ = go (cases_Bool (eqb a b))
  where
    go : ((eqb a b ≡ true) ⊎ (eqb a b ≡ false)) → eqb a b ≡ false
    go (inl e) = absurd (differ (eqb-true a b e))
    go (inr e) = e

-- a bit of a word without those of another one
beside_bit : (x y : ℕ) → x < 2 → y < 2 → eqb (min x (1 - y)) 1 ≡ (eqb x 1 && not (eqb y 1))
beside_bit zero zero h k = refl
beside_bit zero (suc zero) h k = refl
beside_bit (suc zero) zero h k = refl
beside_bit (suc zero) (suc zero) h k = refl
beside_bit (suc (suc x)) y h k = absurd (omega arith)
beside_bit x (suc (suc y)) h k = absurd (omega arith)

pub without : (a b i : ℕ) → b < 2 ^ 64 → i < 64 → eqb (bit_at (bit_and a (18446744073709551615 - b)) i) 1 ≡ (eqb (bit_at a i) 1 && not (eqb (bit_at b i) 1))
without a b i small within =
    ap (λ n. eqb n 1) (bit_at_and a (18446744073709551615 - b) i ∙ ap (min (bit_at a i)) (bit_at_not w64 b i small within))
    ∙ beside_bit (bit_at a i) (bit_at b i) (bit_at-lt a i) (bit_at-lt b i)

kept_bit : (x : ℕ) → x < 2 → min x 1 ≡ x
kept_bit zero h = refl
kept_bit (suc zero) h = refl
kept_bit (suc (suc x)) h = absurd (omega arith)

lost_bit : (x : ℕ) → x < 2 → min x 0 ≡ 0
lost_bit zero h = refl
lost_bit (suc zero) h = refl
lost_bit (suc (suc x)) h = absurd (omega arith)

module _ (word from left : ℕ) (within : from < 64) (is : left ≡ bit_and word (18446744073709551615 * 2 ^ from % 18446744073709551616)) where
  mask : 18446744073709551615 * 2 ^ from % 18446744073709551616 ≡ 2 ^ 64 - 2 ^ from
  mask = ones_shl 64 from (omega arith)

  at : (i : ℕ) → bit_at left i ≡ min (bit_at word i) (bit_at (2 ^ 64 - 2 ^ from) i)
  at i = ap (λ n. bit_at n i) (is ∙ ap (bit_and word) mask) ∙ bit_at_and word (2 ^ 64 - 2 ^ from) i

  -- from a bit on, the word is as it was
  kept : (i : ℕ) → from ≤ i → i < 64 → bit_at left i ≡ bit_at word i
  kept i low high = at i ∙ ap (min (bit_at word i)) (bit_at_mask_inside from 64 i low high) ∙ kept_bit (bit_at word i) (bit_at-lt word i)

  -- below it nothing is left
  lost : (i : ℕ) → i < from → bit_at left i ≡ 0
  lost i low = at i ∙ ap (min (bit_at word i)) (bit_at_mask_below from 64 i low) ∙ lost_bit (bit_at word i) (bit_at-lt word i)

  pub none_from : word < 2 ^ 64 → left ≡ 0 → (k : ℕ) → from ≤ k → eqb (bit_at word k) 1 ≡ false
  none_from small zero_ k low = elim (cases_lt k 64) [
    | inl high ↦ ap (λ n. eqb n 1) (sym (kept k low high) ∙ ap (λ n. bit_at n k) zero_ ∙ bit_at-zero k)
    | inr high ↦ ap (λ n. eqb n 1) (bit_at_above word 64 k small high)
  ]

  pub first_from : 0 < left → left < 2 ^ 64 → (n : ℕ) → n ≡ trailing_zeros w64 left → (n < 64) × IsFirst (λ i. eqb (bit_at word i) 1) from (Some n)
  first_from some small n same =
      let lowest = bit_at-trailing_zeros w64 left some small in
      let high : n < 64 = let h = lowest.0 in rw same h in
      let is_set : bit_at left n ≡ 1 = ap (bit_at left) same ∙ lowest.1 in
      let low : from ≤ n = elim (cases_lt n from) [
        | inl below ↦ absurd (let z : bit_at left n ≡ 0 = lost n below in omega arith)
        | inr e ↦ e
      ] in (
        high,
        (
          low,
          ap (λ b. eqb b 1) (sym (kept n low high) ∙ is_set),
          λ k h below.
              ap (λ b. eqb b 1) (sym (kept k h (omega arith)) ∙ lowest.2 k (let s = same in omega arith)),
        ),
      )

-- the bit of a number stands in the word of the number
pub has_at : (words : List ℕ) (place i : ℕ) → i < 64 → has words (place * 64 + i) ≡ eqb (bit_at (get_or words place 0) i) 1
unfolding has
has_at words place i small =
    let q : (place * 64 + i) / 64 ≡ place = omega arith in
    let r : (place * 64 + i) % 64 ≡ i = omega arith in
    ap (λ j. eqb (bit_at (get_or words j 0) ((place * 64 + i) % 64)) 1) q ∙ ap (λ j. eqb (bit_at (get_or words place 0) j) 1) r

pub has_is : (words : List ℕ) (n : ℕ) → has words n ≡ eqb (bit_at (get_or words (n / 64) 0) (n % 64)) 1
unfolding has
has_is words n = refl

-- a set has no number beyond its room
pub has_past : (words : List ℕ) (n : ℕ) → 64 * length words ≤ n → has words n ≡ false
unfolding has
has_past words n far =
    ap (λ w. eqb (bit_at w (n % 64)) 1) (get_or_past words (n / 64) 0 (omega arith)) ∙ ap (λ b. eqb b 1) (bit_at-zero (n % 64))

far : (count n long : ℕ) → long ≡ count → count ≤ n / 64 → 64 * long ≤ n
far count n long e h = omega arith

-- a set with no bit, and one with all
pub has_none : (count n : ℕ) → has (replicate count 0) n ≡ false
unfolding has
has_none count n = elim (cases_lt (n / 64) count) [
  | inl h ↦ ap (λ w. eqb (bit_at w (n % 64)) 1) (get_or-replicate count (n / 64) 0 0 h) ∙ ap (λ b. eqb b 1) (bit_at-zero (n % 64))
  | inr h ↦ has_past (replicate count 0) n (far count n (length (replicate count 0)) (length-replicate count 0) h)
]

pub has_all : (count n : ℕ) → n < 64 * count → has (replicate count 18446744073709551615) n ≡ true
unfolding has
has_all count n h =
    let within : n / 64 < count = omega arith in
    let small : n % 64 < 64 = omega arith in
    ap (λ w. eqb (bit_at w (n % 64)) 1) (get_or-replicate count (n / 64) 18446744073709551615 0 within) ∙ ap (λ b. eqb b 1) (bit_at_ones 64 (n % 64) small)

module _ (words : List ℕ) (n : ℕ) (inside : n < 64 * length words) (word old : ℕ) (was : old ≡ get_or words (n / 64) 0) where
  place_in : n / 64 < length words
  place_in = omega arith

  bit_in : n % 64 < 64
  bit_in = omega arith

  -- a number in another word is as it was
  other_word : (k : ℕ) → (k / 64 ≡ n / 64 → ⊥) → has (set words (n / 64) word) k ≡ has words k
  unfolding has
  other_word k differ = ap (λ w. eqb (bit_at w (k % 64)) 1) (get_or-set_other words (n / 64) (k / 64) word 0 differ)

  same_word : (k : ℕ) → k / 64 ≡ n / 64 → has (set words (n / 64) word) k ≡ eqb (bit_at word (k % 64)) 1
  unfolding has
  same_word k e = ap (λ w. eqb (bit_at w (k % 64)) 1) (ap (λ j. get_or (set words (n / 64) word) j 0) e ∙ get_or-set_same words (n / 64) word 0 place_in)

  kept_word : (k : ℕ) → k / 64 ≡ n / 64 → bit_at word (k % 64) ≡ bit_at old (k % 64) → has (set words (n / 64) word) k ≡ has words k
  unfolding has
  kept_word k e same = same_word k e ∙ ap (λ b. eqb b 1) (same ∙ ap (λ w. bit_at w (k % 64)) (was ∙ ap (λ j. get_or words j 0) (sym e)))

  pub inserted : word ≡ bit_or old (1 * 2 ^ (n % 64) % 18446744073709551616) → (k : ℕ) → has (set words (n / 64) word) k ≡ (eqb k n || has words k)
  inserted is k = elim (cases_eq k n) [
    | inl same ↦
        ap (has (set words (n / 64) word)) same ∙ same_word n refl ∙ ap (λ b. eqb b 1) (ap (λ w. bit_at w (n % 64)) is ∙ bit_at_set_same w64 old (n % 64) bit_in)
        ∙ sym (ap (λ b. b || has words k) (eq-eqb k n same))
    | inr differ ↦ rest differ (cases_eq (k / 64) (n / 64))
  ]
    where
      rest : (k ≡ n → ⊥) → ((k / 64 ≡ n / 64) ⊎ (k / 64 ≡ n / 64 → ⊥)) → has (set words (n / 64) word) k ≡ (eqb k n || has words k)
      rest differ (inr e) = other_word k e ∙ sym (ap (λ b. b || has words k) (ne-eqb k n differ))
      rest differ (inl e) =
          let off : k % 64 ≡ n % 64 → ⊥ = λ f. differ (omega arith) in
          kept_word k e (ap (λ w. bit_at w (k % 64)) is ∙ bit_at_set_other w64 old (n % 64) bit_in (k % 64) off)
          ∙ sym (ap (λ b. b || has words k) (ne-eqb k n differ))

  pub removed : word ≡ bit_and old (18446744073709551615 - 1 * 2 ^ (n % 64) % 18446744073709551616) → (k : ℕ) → has (set words (n / 64) word) k ≡ (not (eqb k n) && has words k)
  removed is k = elim (cases_eq k n) [
    | inl same ↦
        ap (has (set words (n / 64) word)) same ∙ same_word n refl ∙ ap (λ b. eqb b 1) (ap (λ w. bit_at w (n % 64)) is ∙ bit_at_clear_same w64 old (n % 64) bit_in)
        ∙ sym (ap (λ b. not b && has words k) (eq-eqb k n same))
    | inr differ ↦ rest differ (cases_eq (k / 64) (n / 64))
  ]
    where
      rest : (k ≡ n → ⊥) → ((k / 64 ≡ n / 64) ⊎ (k / 64 ≡ n / 64 → ⊥)) → has (set words (n / 64) word) k ≡ (not (eqb k n) && has words k)
      rest differ (inr e) = other_word k e ∙ sym (ap (λ b. not b && has words k) (ne-eqb k n differ))
      rest differ (inl e) =
          let off : k % 64 ≡ n % 64 → ⊥ = λ f. differ (omega arith) in
          kept_word k e (ap (λ w. bit_at w (k % 64)) is ∙ bit_at_clear_other w64 old (n % 64) bit_in (k % 64) (omega arith) off)
          ∙ sym (ap (λ b. not b && has words k) (ne-eqb k n differ))

module _ (test : ℕ → Bool) (place word : ℕ) (same : (i : ℕ) → i < 64 → eqb (bit_at word i) 1 ≡ test (place * 64 + i)) where
  at_number : (k : ℕ) → place * 64 ≤ k → k < (place + 1) * 64 → test k ≡ eqb (bit_at word (k - place * 64)) 1
  at_number k low high =
      let is : place * 64 + (k - place * 64) ≡ k = omega arith in
      sym (ap test is) ∙ sym (same (k - place * 64) (omega arith))

  -- a word without a bit from one on
  pub none_in_word : (from : ℕ) → IsFirst (λ i. eqb (bit_at word i) 1) from None → (k : ℕ) → place * 64 + from ≤ k → k < (place + 1) * 64 → test k ≡ false
  none_in_word from none k low high = at_number k (omega arith) high ∙ none (k - place * 64) (omega arith)

  -- the first in a word
  pub first_in_word : (from n : ℕ) → n < 64 → IsFirst (λ i. eqb (bit_at word i) 1) from (Some n)
      → (place * 64 + from ≤ place * 64 + n) × (test (place * 64 + n) ≡ true) × ((k : ℕ) → place * 64 + from ≤ k → k < place * 64 + n → test k ≡ false)
  first_in_word from n small first = (
    omega (arith, first.0),
    (sym (same n small) ∙ first.1),
    λ k low high.
        at_number k (omega arith) (omega arith) ∙ first.2 (k - place * 64) (omega arith) (omega arith),
  )

-- beside the empty set nothing is left out
pub beside_none : (words : List ℕ) (k : ℕ) → (has words k && not (has [] k)) ≡ has words k
beside_none words k = ap (λ b. has words k && not b) (has_past [] k (omega arith)) ∙ and_true (has words k)

-- the first of a test that says the same
pub first_of : (rule test : ℕ → Bool) (same : (k : ℕ) → rule k ≡ test k) (from : ℕ) (o : Option ℕ) → IsFirst rule from o → IsFirst test from o
first_of rule test same from None first = λ k low. sym (same k) ∙ first k low
first_of rule test same from (Some n) first = (first.0, sym (same n) ∙ first.1, λ k low high. sym (same k) ∙ first.2 k low high)

-- a number beyond the room is taken out of a set as it is
pub nothing_removed : (words : List ℕ) (n : ℕ) → 64 * length words ≤ n → (k : ℕ) → has words k ≡ (not (eqb k n) && has words k)
nothing_removed words n far k = elim (cases_eq k n) [
  | inl same ↦ let none : has words k ≡ false = has_past words k (omega arith) in none ∙ sym (ap (λ b. not (eqb k n) && b) none ∙ never (not (eqb k n)))
  | inr differ ↦ sym (ap (λ b. not b && has words k) (ne-eqb k n differ))
]
  where
    never : (b : Bool) → (b && false) ≡ false
    never true = refl
    never false = refl

-- what a set has is below its room
pub has_small : (words : List ℕ) (n : ℕ) → length words ≤ 33554432 → has words n ≡ true → n < 2147483648
has_small words n few h = elim (cases_lt n (64 * length words)) [
  | inl small ↦ omega arith
  | inr large ↦ absurd (let none : has words n ≡ false = has_past words n large in let both : true ≡ false = sym h ∙ none in cc)
]

-- a word that another one has all bits of
pub within_word : (a b : ℕ) → b < 2 ^ 64 → bit_and a (18446744073709551615 - b) ≡ 0 → (i : ℕ) → i < 64 → eqb (bit_at a i) 1 ≡ true → eqb (bit_at b i) 1 ≡ true
within_word a b small none i low h =
    let e : (eqb (bit_at a i) 1 && not (eqb (bit_at b i) 1)) ≡ false = sym (without a b i small low) ∙ ap (λ n. eqb (bit_at n i) 1) none ∙ ap (λ n. eqb n 1) (bit_at-zero i) in
    go (eqb (bit_at b i) 1) (sym (ap (λ x. x && not (eqb (bit_at b i) 1)) h) ∙ e)
  where
    go : (y : Bool) → (true && not y) ≡ false → y ≡ true
    go true e = refl
    go false e = absurd (cc)

either_bit : (x y : ℕ) → x < 2 → y < 2 → eqb (max x y) 1 ≡ (eqb x 1 || eqb y 1)
either_bit zero zero h k = refl
either_bit zero (suc zero) h k = refl
either_bit (suc zero) zero h k = refl
either_bit (suc zero) (suc zero) h k = refl
either_bit (suc (suc x)) y h k = absurd (omega arith)
either_bit x (suc (suc y)) h k = absurd (omega arith)

-- the bits of two words together
pub either : (a b i : ℕ) → eqb (bit_at (bit_or a b) i) 1 ≡ (eqb (bit_at a i) 1 || eqb (bit_at b i) 1)
either a b i = ap (λ n. eqb n 1) (bit_at_or a b i) ∙ either_bit (bit_at a i) (bit_at b i) (bit_at-lt a i) (bit_at-lt b i)

-- a number in a word by its bit
pub has_in : (words : List ℕ) (place k : ℕ) → place * 64 ≤ k → k < (place + 1) * 64 → has words k ≡ eqb (bit_at (get_or words place 0) (k - place * 64)) 1
has_in words place k low high =
    let is : place * 64 + (k - place * 64) ≡ k = omega arith in
    ap (has words) (sym is) ∙ has_at words place (k - place * 64) (omega arith)

-- a word all of whose bits stand in the other's
pub none_beside : (words other : List ℕ) (place : ℕ) → ((i : ℕ) → i < 64 → eqb (bit_at (get_or words place 0) i) 1 ≡ true → eqb (bit_at (get_or other place 0) i) 1 ≡ true)
    → (k : ℕ) → place * 64 ≤ k → k < (place + 1) * 64 → (has words k && not (has other k)) ≡ false
none_beside words other place within k low high =
    go (has words k) (has other k) (λ h. has_in other place k low high ∙ within (k - place * 64) (omega arith) (sym (has_in words place k low high) ∙ h))
  where
    go : (x y : Bool) → (x ≡ true → y ≡ true) → (x && not y) ≡ false
    go true y f = ap not (f refl)
    go false y f = refl

-- four sets together
abbrev pub has_any : List ℕ → List ℕ → List ℕ → List ℕ → ℕ → Bool
has_any a b c d k = (has a k || has b k) || (has c k || has d k)

pub any_in : (a b c d : List ℕ) (place k : ℕ) → place * 64 ≤ k → k < (place + 1) * 64
    → has_any a b c d k
    ≡ ((eqb (bit_at (get_or a place 0) (k - place * 64)) 1 || eqb (bit_at (get_or b place 0) (k - place * 64)) 1) || (eqb (bit_at (get_or c place 0) (k - place * 64)) 1 || eqb (bit_at (get_or d place 0) (k - place * 64)) 1))
any_in a b c d place k low high = rw (has_in a place k low high, has_in b place k low high, has_in c place k low high, has_in d place k low high) refl

pub any_past : (a b c d : List ℕ) (k : ℕ) → 64 * length a ≤ k → 64 * length b ≤ k → 64 * length c ≤ k → 64 * length d ≤ k → has_any a b c d k ≡ false
any_past a b c d k h i j l = rw (has_past a k h, has_past b k i, has_past c k j, has_past d k l) refl
