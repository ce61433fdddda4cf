-- The last of the numbers that words of bits have.
use Rattle.std.proofs.Common.{◌≡◌, ℕ, zero, suc, ◌+◌, ◌-◌, ◌*◌, ◌/◌, ◌%◌, ◌^◌, ◌<◌, ◌≤◌, Bool, true, false, ◌&&◌, List, length, get_or, set, eqb, inl, inr, refl, sym, ap, ◌∙◌, arith, min, max, w64, get_or-set_same, get_or-set_other}
use Rattle.std.specs.Prelude.{bit_and, bit_or, nat_lt, None, Some}
use Rattle.std.specs.Int.{bit_at, leading_zeros}
use Rattle.std.proofs.lemmas.Bool.{cases_lt, false≢true, lt-ltb, ltb-true, false_from_ne_true}
use Rattle.std.proofs.Math.Nat.{pow-suc}
use Rattle.std.proofs.lemmas.Nat.{leading_top, one_shl, or_shifted}
use Rattle.std.proofs.lemmas.Nat.Bits.{bit_at_and, bit_at_or, bit_at-lt, bit_at-zero, bit_at_above, bit_at_ones, bit_at_ones_above, bit_at-pow_same}
use Rattle.solv_trail.specs.Inner.Numbers.{has}
use Rattle.solv_trail.proofs.Bits.{has_in, has_at, has_is, has_past}
use Rattle.solv_learn.specs.Inner.Places.{IsLast}

kept_bit : (x : ℕ) → x < 2 → eqb (min x 1) 1 ≡ (eqb x 1 && true)
kept_bit zero h = refl
kept_bit (suc zero) h = refl
kept_bit (suc (suc x)) h = absurd (omega arith)

lost_bit : (x : ℕ) → x < 2 → eqb (min x 0) 1 ≡ (eqb x 1 && false)
lost_bit zero h = refl
lost_bit (suc zero) h = refl
lost_bit (suc (suc x)) h = absurd (omega arith)

-- the bits below one
pub lower_bit : (word e i : ℕ) → e < 64 → eqb (bit_at (bit_and word (1 * 2 ^ e % 18446744073709551616 - 1)) i) 1 ≡ (eqb (bit_at word i) 1 && nat_lt i e)
lower_bit word e i within =
    let mask : 1 * 2 ^ e % 18446744073709551616 ≡ 2 ^ e = one_shl e 64 within in
    let is : bit_at (bit_and word (1 * 2 ^ e % 18446744073709551616 - 1)) i ≡ min (bit_at word i) (bit_at (2 ^ e - 1) i) =
    ap (λ m. bit_at (bit_and word (m - 1)) i) mask ∙ bit_at_and word (2 ^ e - 1) i in
    ap (λ n. eqb n 1) is ∙ elim (cases_lt i e) [
      | inl low ↦ ap (λ n. eqb (min (bit_at word i) n) 1) (bit_at_ones e i low) ∙ kept_bit (bit_at word i) (bit_at-lt word i) ∙ ap (λ b. eqb (bit_at word i) 1 && b) (sym (lt-ltb i e low))
      | inr high ↦
          let off : nat_lt i e ≡ false = false_from_ne_true (nat_lt i e) (λ t. let less = ltb-true i e t in omega arith) in
          ap (λ n. eqb (min (bit_at word i) n) 1) (bit_at_ones_above e i high) ∙ lost_bit (bit_at word i) (bit_at-lt word i) ∙ ap (λ b. eqb (bit_at word i) 1 && b) (sym off)
    ]

pub below_top : (word as_well top i : ℕ) → word ≡ as_well → i < top → (eqb (bit_at word i) 1 && nat_lt i top) ≡ eqb (bit_at as_well i) 1
below_top word as_well top i same h = ap (λ b. eqb (bit_at word i) 1 && b) (lt-ltb i top h) ∙ alone (eqb (bit_at word i) 1) ∙ ap (λ w. eqb (bit_at w i) 1) same
  where
    alone : (b : Bool) → (b && true) ≡ b
    alone true = refl
    alone false = refl

pub above_top : (word top i : ℕ) → top ≤ i → (eqb (bit_at word i) 1 && nat_lt i top) ≡ false
above_top word top i h =
    let off : nat_lt i top ≡ false = false_from_ne_true (nat_lt i top) (λ t. let less = ltb-true i top t in omega arith) in
    ap (λ b. eqb (bit_at word i) 1 && b) off ∙ never (eqb (bit_at word i) 1)
  where
    never : (b : Bool) → (b && false) ≡ false
    never true = refl
    never false = refl

-- the highest bit
top_bit : (word j : ℕ) → 2 ^ j ≤ word → word < 2 ^ suc j → bit_at word j ≡ 1
top_bit word j low high =
    let double : 2 ^ suc j ≡ 2 ^ j * 2 = pow-suc 2 j in
    let rest : word - 2 ^ j < 2 ^ j = omega arith in
    let is : bit_or (1 * 2 ^ j) (word - 2 ^ j) ≡ word = or_shifted 1 j (word - 2 ^ j) rest ∙ omega arith in
    let one : bit_at (1 * 2 ^ j) j ≡ 1 = ap (λ v. bit_at v j) (omega arith) ∙ bit_at-pow_same j in
    ap (λ v. bit_at v j) (sym is) ∙ bit_at_or (1 * 2 ^ j) (word - 2 ^ j) j ∙ ap (λ v. max v (bit_at (word - 2 ^ j) j)) one ∙ ap (max 1) (bit_at_above (word - 2 ^ j) j j rest (omega arith))

pub highest_bit : (word n : ℕ) → 0 < word → word < 2 ^ 64 → n ≡ 63 - leading_zeros w64 word → IsLast (λ i. eqb (bit_at word i) 1) 0 64 (Some n)
highest_bit word n some small same =
    let top = leading_top 64 word some small in
    let is : n ≡ top.0 = let s = same in let t = top.1 in omega arith in (
      omega arith,
      (let t = top.1 in omega arith),
      ap (λ v. eqb (bit_at word v) 1) is ∙ ap (λ v. eqb v 1) (top_bit word top.0 top.2 top.3),
      λ k low high. ap (λ v. eqb v 1) (bit_at_above word (suc top.0) k top.3 (omega arith)),
    )

pub no_bit : (word : ℕ) → word ≡ 0 → IsLast (λ i. eqb (bit_at word i) 1) 0 64 None
no_bit word none = λ k low high. ap (λ v. eqb (bit_at v k) 1) none ∙ ap (λ v. eqb v 1) (bit_at-zero k)

-- the numbers of a word, of which those below the bit `top` are looked at
module _ (words : List ℕ) (place word top : ℕ) (few : top ≤ 64)
    (same : (i : ℕ) → i < top → eqb (bit_at word i) 1 ≡ eqb (bit_at (get_or words place 0) i) 1)
    (none_above : (i : ℕ) → top ≤ i → i < 64 → eqb (bit_at word i) 1 ≡ false) where
  at_number : (k : ℕ) → place * 64 ≤ k → k < place * 64 + top → has words k ≡ eqb (bit_at word (k - place * 64)) 1
  at_number k low high = has_in words place k low (omega arith) ∙ sym (same (k - place * 64) (omega arith))

  pub none_of_word : IsLast (λ i. eqb (bit_at word i) 1) 0 64 None → IsLast (has words) (place * 64) (place * 64 + top) None
  none_of_word none = λ k low high. at_number k low high ∙ none (k - place * 64) (omega arith) (omega arith)

  pub last_of_word : (n : ℕ) → IsLast (λ i. eqb (bit_at word i) 1) 0 64 (Some n) → IsLast (has words) (place * 64) (place * 64 + top) (Some (place * 64 + n))
  last_of_word n last =
      let within : n < top = elim (cases_lt n top) [ inl h ↦ h | inr h ↦ absurd (false≢true (sym (none_above n h last.1) ∙ last.2)) ] in (
        omega arith,
        omega arith,
        has_at words place n (omega arith) ∙ sym (same n within) ∙ last.2,
        λ k low high. at_number k (omega arith) high ∙ last.3 (k - place * 64) (omega arith) (omega arith),
      )

-- a word without a bit
pub other_word : (words : List ℕ) (place k : ℕ) → (k / 64 ≡ place → ⊥) → has (set words place 0) k ≡ has words k
other_word words place k differ =
    has_is (set words place 0) k ∙ ap (λ w. eqb (bit_at w (k % 64)) 1) (get_or-set_other words place (k / 64) 0 0 differ) ∙ sym (has_is words k)

pub empty_word : (words : List ℕ) (place k : ℕ) → place < length words → k / 64 ≡ place → has (set words place 0) k ≡ false
empty_word words place k within e =
    has_is (set words place 0) k ∙ ap (λ j. eqb (bit_at (get_or (set words place 0) j 0) (k % 64)) 1) e
    ∙ ap (λ w. eqb (bit_at w (k % 64)) 1) (get_or-set_same words place 0 0 within) ∙ ap (λ b. eqb b 1) (bit_at-zero (k % 64))

-- what is there stands in one of the words
pub has_within : (words : List ℕ) (k : ℕ) → has words k ≡ true → k / 64 < length words
has_within words k t = elim (cases_lt (k / 64) (length words)) [ inl h ↦ h | inr h ↦ absurd (false≢true (sym (has_past words k (omega arith)) ∙ t)) ]
