-- The numbers that `clap` takes, and what is read of them.
use Rattle.std.proofs.Common.{◌≡◌, ◌∙◌, ◌<◌, ◌≤◌, ◌&&◌, ◌||◌, ◌==◌, ◌^◌, ℕ, zero, suc, Bool, cond, true, false, not, refl, sym, ap, subst, arith, List, [], ◌∷◌, drop, nat_lt, Option, Some, None, Result, Ok, Err, inl, inr, lt-ltb, le-leb}
use Rattle.std.specs.Prelude.{pos, nat_le, int_le, neg_ℤ, unwrap_or}
use Rattle.std.specs.Str.Parse.{IsNumeral, ParsesUnsigned, digits_value, starts_with_minus, without_leading_plus, without_leading_sign}
use Rattle.std.proofs.lemmas.Bool.{leb-true, ne_eqb}
use Rattle.std.proofs.lemmas.Str.Parse.{digit_from_value}
use Rattle.std.proofs.lemmas.Int.{ints}
use Rattle.clap.specs.Matches.{ReadsOne}
use Rattle.clap.specs.Lexer.{without_minus}
use Rattle.clap.specs.ValueTests.{fits_i64, is_numeral, is_signed_in}
use Rattle.clap.specs.Values.{IsSignedIn}
use Rattle.clap.specs.declared.builder.value_parser.ValueParser.TheVariants.{Signed}
use Rattle.clap.proofs.ValueTestLemmas.{accepts-Accepts}
use Rattle.solv_words.specs.CommandLine.{is_number, number_of}
use Rattle.solv_list.proofs.Booleans.{true_or_false, and_false}

at_least_none : (n : ℕ) → nat_le 0 n ≡ true
at_least_none n = le-leb 0 n (omega arith)

-- the tests of a number with its sign
signed_test : (m n : ℕ) → m < 2 ^ 63 → (minus : Bool)
    → (let z = cond minus (neg_ℤ (pos n)) (pos n) in fits_i64 z && (int_le (pos 0) z && int_le z (pos m))) ≡ (nat_le n m && (not minus || n == 0))
signed_test m zero h true = rw (at_least_none m, at_least_none 0) refl
signed_test m (suc n) h true =
    let more : (suc n == 0) ≡ false = ne_eqb _ _ (λ e. omega arith) in
    and_false (nat_lt n (2 ^ 63)) ∙ sym (ap (λ b. nat_le (suc n) m && b) more ∙ and_false (nat_le (suc n) m))
signed_test m n h false = elim (true_or_false (nat_le n m)) [
  | inl e ↦ let le : n ≤ m = leb-true n m e in rw (lt-ltb n (2 ^ 63) (omega arith), at_least_none n, e) refl
  | inr e ↦ rw (at_least_none n, e) (and_false (nat_lt n (2 ^ 63)))
]

pub number_is : (m : ℕ) → m < 2 ^ 63 → (text : List ℕ) → is_signed_in (pos 0) (pos m) text ≡ is_number m text
number_is m h text = ap (λ b. is_numeral (without_leading_sign text) && b) (signed_test m (number_of text) h (starts_with_minus text))

no_plus : (ds : List ℕ) → IsNumeral 10 ds → without_leading_plus ds ≡ ds
no_plus [] h = refl
no_plus (d ∷ ds) h =
    let plus : (d == 43) ≡ false = ne_eqb _ _ (λ e. omega (arith, digit_from_value d h.1.0)) in
    ap (λ (b : Bool). drop (cond b 1 0) (d ∷ ds)) plus

minus_off : (t : List ℕ) → without_minus t ≡ cond (starts_with_minus t) (drop 1 t) t
minus_off [] = refl
minus_off (x ∷ xs) = go (x == 45)
  where
    go : (b : Bool) → unwrap_or (cond b (Some xs) None) (x ∷ xs) ≡ cond b xs (x ∷ xs)
    go true = refl
    go false = refl

-- a number that was taken is read as the number that it is
pub number_read : (E : Type 0) (G : List ℕ → Result ℕ E → Type 0) (k m : ℕ) (t : List ℕ) (r : Option ℕ)
    → ReadsOne G (without_minus t) r → ((u : List ℕ) (x : Result ℕ E) → G u x → ParsesUnsigned k 10 u x) → m < 2 ^ k → m < 2 ^ 63
    → is_number m t ≡ true → r ≡ Some (number_of t)
number_read E G k m t r read only fits small test =
    go (starts_with_minus t) refl r (subst (λ (u : List ℕ). ReadsOne G u r) (minus_off t) read)
  where
    passed : IsSignedIn (pos 0) (pos m) t
    passed = accepts-Accepts false (Signed (pos 0) (pos m)) t (number_is m small t ∙ test)

    go : (b : Bool) → starts_with_minus t ≡ b → (o : Option ℕ) → ReadsOne G (cond (starts_with_minus t) (drop 1 t) t) o → o ≡ Some (number_of t)
    go true minus (Some v) h =
        let numeral : IsNumeral 10 (drop 1 t) = rw minus at passed.0 in
        let parsed = only (drop 1 t) (Ok v) (rw minus at h) in
        ap Some (parsed.1 ∙ ap (digits_value 10) (no_plus (drop 1 t) numeral) ∙ sym (ap (λ b. digits_value 10 (cond b (drop 1 t) (without_leading_plus t))) minus))
    go true minus None h =
        let bounds = rw minus at passed.3 in
        let numeral : IsNumeral 10 (drop 1 t) = rw minus at passed.0 in
        let low = rw minus at passed.2 in
        let same = no_plus (drop 1 t) numeral in
        let fitting : digits_value 10 (drop 1 t) < 2 ^ k = omega (arith, ints) in
        absurd (only (drop 1 t) (Err h.0) (rw minus at h.1) (rw same numeral, rw same fitting))
    go false minus (Some v) h =
        let parsed = only t (Ok v) (rw minus at h) in
        ap Some (parsed.1 ∙ sym (ap (λ b. digits_value 10 (cond b (drop 1 t) (without_leading_plus t))) minus))
    go false minus None h =
        let numeral = rw minus at passed.0 in
        let high = rw minus at passed.3 in
        absurd (only t (Err h.0) (rw minus at h.1) (numeral, omega (arith, ints)))
