-- Numbers, literals and hints, written and read.
use Rattle.std.proofs.Common.{ℕ, suc, zero, ◌≡◌, ◌∙◌, ◌+◌, ◌<◌, ◌≤◌, true, false, Bool, ◌&&◌, List, [], ◌∷◌, ◌++◌, Option, Some, None, length, get_or, refl, sym, ap, arith, rules}
use Rattle.std.specs.Prelude.{ℤ, pos, negsuc, neg_ℤ, nat_lt, not, ◌==◌, ◌%◌, ◌^◌, codes, if◌then◌else◌}
use Rattle.std.specs.Char.{is_ascii_digit}
use Rattle.std.specs.Fmt.{decimal, signed_decimal}
use Rattle.std.specs.List.{list_all}
use Rattle.std.specs.Option.{option_map}
use Rattle.std.specs.Str.Parse.{digits_value}
use Rattle.std.proofs.lemmas.Bool.Decides.{nat_tests}
use Rattle.std.proofs.lemmas.Fmt.{decimal_by_steps, decimal_is_IsNumeral, decimal-digits_value}
use Rattle.std.proofs.lemmas.Str.Parse.{IsNumeralModel, numerals_by_value}
use Rattle.std.proofs.lemmas.List.Folds.{list_all-append}
use Rattle.solv_derive.specs.declared.logs.Hint.{Hint}
use Rattle.solv_derive.specs.declared.logs.Hint.TheVariants as hint
use Rattle.solv_proof.specs.Numbers.{is_plain, spelt, place, from_one, count, package_number, literal, hint_of, hint_word}
use Rattle.solv_proof.specs.Words.{is_some_word}
use Rattle.solv_proof.specs.Reading.{is_zero}
use Rattle.solv_proof.specs.Laws.{place_fits, literal_fits, hint_fits}
use Rattle.solv_proof.proofs.Bools.{both, joint}
use Rattle.solv_list.proofs.Lists.{below_true, same_bytes}
use Rattle.solv_list.proofs.Numbers.{same_number}
use Rattle.solv_proof.proofs.WordLaws.{is_inside, is_unspaced}
use Rattle.solv_list.proofs.Digits.{digit_more}
use Rattle.std.proofs.lemmas.Bool.{ltb-true, ne_eqb}

abbrev are_digits : List ℕ → Bool
are_digits w = list_all is_ascii_digit w

digit_inside : (c : ℕ) → is_ascii_digit c ≡ true → is_inside c ≡ true
digit_inside c h = grind (arith, nat_tests)

digits_word : (w : List ℕ) → are_digits w ≡ true → is_unspaced w ≡ true
digits_word [] h = refl
digits_word (c ∷ cs) h = let cut = both (is_ascii_digit c) (are_digits cs) h in joint (is_inside c) (is_unspaced cs) (digit_inside c cut.0) (digits_word cs cut.1)

-- a plain word has a byte, and digits alone
plain_digits : (w : List ℕ) → is_plain w ≡ true → are_digits w ≡ true
plain_digits [] h = absurd (cc)
plain_digits (c ∷ []) h = rw h refl
plain_digits (c ∷ d ∷ cs) h = (both (not (c == 48)) (are_digits (c ∷ d ∷ cs)) h).1

pub plain_word : (w : List ℕ) → is_plain w ≡ true → is_unspaced w ≡ true
plain_word w h = digits_word w (plain_digits w h)

pub plain_some : (w : List ℕ) → is_plain w ≡ true → is_some_word w ≡ true
plain_some [] h = absurd (cc)
plain_some (c ∷ cs) h = refl

-- the first byte of a number that is not 0 is not `0`
abbrev pub first_other : List ℕ → Bool
first_other [] = false
first_other (c ∷ cs) = not (c == 48)

one_other : (n : ℕ) → 0 < n → n < 10 → first_other ((48 + n) ∷ []) ≡ true
one_other n h l = grind (arith, nat_tests)

more_other : (ds : List ℕ) (d : ℕ) → first_other ds ≡ true → first_other (ds ++ d ∷ []) ≡ true
more_other [] d h = absurd (cc)
more_other (c ∷ cs) d h = h

more_plain : (ds : List ℕ) (d : ℕ) → is_plain ds ≡ true → first_other ds ≡ true → is_ascii_digit d ≡ true → is_plain (ds ++ d ∷ []) ≡ true
more_plain [] d h o f = absurd (cc)
more_plain (c ∷ []) d h o f = rw (o, h, f) refl
more_plain (c ∷ e ∷ cs) d h o f =
    let digits = plain_digits (c ∷ e ∷ cs) h in
    let parts = both (is_ascii_digit c) (are_digits (e ∷ cs)) digits in
    let parts2 = both (is_ascii_digit e) (are_digits cs) parts.1 in
    rw (o, parts.0, parts2.0, list_all-append is_ascii_digit cs (d ∷ []), parts2.1, f) refl

remainder_small : (n : ℕ) → n % 10 < 10
remainder_small n = omega arith

pub decimal_plain : (n : ℕ) → n < 2 ^ 64 → is_plain (decimal n) ≡ true
decimal_plain n small = (decimal_by_steps (λ m ds. (is_plain ds ≡ true) × (0 < m → first_other ds ≡ true))
    (λ m l. (digit_more m l, λ some. one_other m some l))
    (λ m ds ten before. (more_plain ds (48 + m % 10) before.0 (before.1 (omega arith)) (digit_more (m % 10) (remainder_small m)), λ some. more_other ds (48 + m % 10) (before.1 (omega arith))))
    n small).0

pub decimal_word : (n : ℕ) → n < 2 ^ 64 → is_unspaced (decimal n) ≡ true
decimal_word n small = plain_word (decimal n) (decimal_plain n small)

pub spelt_decimal : (limit n : ℕ) → n < limit → limit ≤ 2 ^ 64 → spelt limit (decimal n) ≡ Some n
spelt_decimal limit n h most =
    let small : n < 2 ^ 64 = omega arith in
    rw (decimal_plain n small, (decimal_is_IsNumeral n small).1, below_true n limit h) refl

-- digits by a test
own : IsNumeralModel (λ ds. list_all is_ascii_digit ds ≡ true) (digits_value 10)
own = numerals_by_value _ (search rules)

plain_lead : (w : List ℕ) → is_plain w ≡ true → get_or w 0 0 ≡ 48 → length w ≡ 1
plain_lead [] h e = absurd (cc)
plain_lead (c ∷ []) h e = refl
plain_lead (c ∷ d ∷ cs) h e = let other : not (c == 48) ≡ true = (both (not (c == 48)) (are_digits (c ∷ d ∷ cs)) h).0 in absurd (grind (arith, nat_tests, other, e))

plain_length : (w : List ℕ) → is_plain w ≡ true → 0 < length w
plain_length [] h = absurd (cc)
plain_length (c ∷ cs) h = omega arith

-- a word that spells a number is its decimal digits
pub spelt_is : (limit n : ℕ) (w : List ℕ) → limit ≤ 2 ^ 64 → spelt limit w ≡ Some n → (w ≡ decimal n) × (n < limit)
spelt_is limit n w most h =
    elim (is_plain w && nat_lt (digits_value 10 w) limit) as (λ b. (is_plain w && nat_lt (digits_value 10 w) limit) ≡ b → (if b then Some (digits_value 10 w) else None) ≡ Some n → (w ≡ decimal n) × (n < limit)) [
      | true ↦ λ e f.
          let cut = both (is_plain w) (nat_lt (digits_value 10 w) limit) e in
          let small : digits_value 10 w < limit = ltb-true (digits_value 10 w) limit cut.1 in
          let is : digits_value 10 w ≡ n = same_some (digits_value 10 w) n f in
          (sym (decimal-digits_value own w (plain_digits w cut.0) (plain_length w cut.0) (plain_lead w cut.0) (omega arith)) ∙ ap decimal is, omega (arith, is, small))
      | false ↦ λ e f. absurd (cc)
    ] refl h
  where
    same_some : (a b : ℕ) → Some a ≡ Some b → a ≡ b
    same_some a b e = cc

-- a place
pub place_decimal : (n : ℕ) → place_fits n ≡ true → place (decimal n) ≡ Some n
place_decimal n h = spelt_decimal (2 ^ 64) n (ltb-true n (2 ^ 64) h) (omega arith)

pub place_is : (n : ℕ) (w : List ℕ) → place w ≡ Some n → (w ≡ decimal n) × (place_fits n ≡ true)
place_is n w h = let is = spelt_is (2 ^ 64) n w (omega arith) h in (is.0, below_true n (2 ^ 64) is.1)

-- a number from 1
from_one_some : (n : ℕ) → 0 < n → from_one (Some n) ≡ Some n
from_one_some n h = rw (ne_eqb n 0 (λ e. omega (arith, e))) refl

from_one_is : (read : Option ℕ) (n : ℕ) → from_one read ≡ Some n → (read ≡ Some n) × (0 < n)
from_one_is None n h = absurd (cc)
from_one_is (Some m) n h = elim (m == 0) as (λ b. (m == 0) ≡ b → (if b then None else Some m) ≡ Some n → (Some m ≡ Some n) × (0 < n)) [
  | true ↦ λ e f. absurd (cc)
  | false ↦ λ e f. (f, positive m n e f)
] refl h
  where
    positive : (m n : ℕ) → (m == 0) ≡ false → Some m ≡ Some n → 0 < n
    positive m n e f = let is : m ≡ n = cc in grind (arith, nat_tests, e, is)

pub count_decimal : (n : ℕ) → nat_lt 0 n ≡ true → place_fits n ≡ true → count (decimal n) ≡ Some n
count_decimal n some h = ap from_one (place_decimal n h) ∙ from_one_some n (ltb-true 0 n some)

pub count_is : (n : ℕ) (w : List ℕ) → count w ≡ Some n → (w ≡ decimal n) × (place_fits n ≡ true) × (nat_lt 0 n ≡ true)
count_is n w h =
    let cut = from_one_is (spelt (2 ^ 64) w) n h in
    let is = spelt_is (2 ^ 64) n w (omega arith) cut.0 in
    (is.0, below_true n (2 ^ 64) is.1, below_true 0 n cut.1)

package_decimal : (n : ℕ) → 0 < n → n < 2 ^ 20 → package_number (decimal n) ≡ Some n
package_decimal n some h = ap from_one (spelt_decimal (2 ^ 20) n h (omega arith)) ∙ from_one_some n some

package_is : (n : ℕ) (w : List ℕ) → package_number w ≡ Some n → (w ≡ decimal n) × (n < 2 ^ 20) × (0 < n)
package_is n w h =
    let cut = from_one_is (spelt (2 ^ 20) w) n h in
    let is = spelt_is (2 ^ 20) n w (omega arith) cut.0 in
    (is.0, is.1, cut.1)

-- literals
no_minus : (c : ℕ) → is_ascii_digit c ≡ true → (c == 45) ≡ false
no_minus c h = grind (arith, nat_tests)

first_digit : (c : ℕ) (cs : List ℕ) → is_plain (c ∷ cs) ≡ true → is_ascii_digit c ≡ true
first_digit c cs h = (both (is_ascii_digit c) (are_digits cs) (plain_digits (c ∷ cs) h)).0

plain_literal : (w : List ℕ) → is_plain w ≡ true → literal w ≡ option_map pos (package_number w)
plain_literal [] h = absurd (cc)
plain_literal (c ∷ cs) h = rw (no_minus c (first_digit c cs h)) refl

pub literal_decimal : (l : ℤ) → literal_fits l ≡ true → literal (signed_decimal l) ≡ Some l
literal_decimal (pos n) h =
    let cut = both (nat_lt 0 n) (nat_lt n (2 ^ 20)) h in
    let low : n < 2 ^ 20 = ltb-true n (2 ^ 20) cut.1 in
    plain_literal (decimal n) (decimal_plain n (omega arith)) ∙ ap (option_map pos) (package_decimal n (ltb-true 0 n cut.0) low)
literal_decimal (negsuc n) h =
    let cut = both (nat_lt 0 (suc n)) (nat_lt (suc n) (2 ^ 20)) h in
    ap (option_map (λ m. neg_ℤ (pos m))) (package_decimal (suc n) (omega arith) (ltb-true (suc n) (2 ^ 20) cut.1))

pub literal_is : (l : ℤ) (w : List ℕ) → literal w ≡ Some l → (w ≡ signed_decimal l) × (literal_fits l ≡ true)
literal_is l [] h = absurd (cc)
literal_is l (c ∷ cs) h = elim (c == 45) as (λ b. (c == 45) ≡ b → (if b then option_map (λ n. neg_ℤ (pos n)) (package_number cs) else option_map pos (package_number (c ∷ cs))) ≡ Some l
    → ((c ∷ cs) ≡ signed_decimal l) × (literal_fits l ≡ true)) [
      | true ↦ λ e f. minus (package_number cs) refl f e
      | false ↦ λ e f. plus (package_number (c ∷ cs)) refl f
    ] refl h
  where
    fits : (n : ℕ) → 0 < n → n < 2 ^ 20 → (nat_lt 0 n && nat_lt n (2 ^ 20)) ≡ true
    fits n a b = joint (nat_lt 0 n) (nat_lt n (2 ^ 20)) (below_true 0 n a) (below_true n (2 ^ 20) b)

    plus : (read : Option ℕ) → package_number (c ∷ cs) ≡ read → option_map pos read ≡ Some l → ((c ∷ cs) ≡ signed_decimal l) × (literal_fits l ≡ true)
    plus None e f = absurd (cc)
    plus (Some n) e f = let is = package_is n (c ∷ cs) e in let same : pos n ≡ l = cc in rw (← same) (is.0, fits n is.2 is.1)

    negative : (n : ℕ) → (w : List ℕ) → w ≡ decimal n → n < 2 ^ 20 → 0 < n → (c ≡ 45) → ((c ∷ w) ≡ signed_decimal (neg_ℤ (pos n))) × (literal_fits (neg_ℤ (pos n)) ≡ true)
    negative zero w e low some m = absurd (omega arith)
    negative (suc n) w e low some m = (rw (m, e) refl, fits (suc n) some low)

    minus : (read : Option ℕ) → package_number cs ≡ read → option_map (λ n. neg_ℤ (pos n)) read ≡ Some l → (c == 45) ≡ true → ((c ∷ cs) ≡ signed_decimal l) × (literal_fits l ≡ true)
    minus None e f m = absurd (cc)
    minus (Some n) e f m = let is = package_is n cs e in let same : neg_ℤ (pos n) ≡ l = cc in rw (← same) (negative n cs is.0 is.1 is.2 (same_number c 45 m))

pub literal_word : (l : ℤ) → literal_fits l ≡ true → is_unspaced (signed_decimal l) ≡ true
literal_word (pos n) h = let low : n < 2 ^ 20 = ltb-true n (2 ^ 20) (both (nat_lt 0 n) (nat_lt n (2 ^ 20)) h).1 in decimal_word n (omega arith)
literal_word (negsuc n) h = let low : suc n < 2 ^ 20 = ltb-true (suc n) (2 ^ 20) (both (nat_lt 0 (suc n)) (nat_lt (suc n) (2 ^ 20)) h).1 in decimal_word (suc n) (omega arith)

-- the word `0` is no literal
pub literal_not_zero : (w : List ℕ) (l : ℤ) → literal w ≡ Some l → is_zero w ≡ false
literal_not_zero w l h = elim (is_zero w) as (λ b. is_zero w ≡ b → b ≡ false) [
  | true ↦ λ e. let is : w ≡ codes "0" = same_bytes w (codes "0") e in let none : literal w ≡ None = ap literal is in absurd (cc)
  | false ↦ λ e. refl
] refl

-- hints
pub hint_decimal : (h : Hint) → hint_fits h ≡ true → hint_of (hint_word h) ≡ Some h
hint_decimal (hint.Book rule) f = ap (option_map hint.Book) (spelt_decimal (2 ^ 32) rule (ltb-true rule (2 ^ 32) f) (omega arith))
hint_decimal (hint.Step step) f = ap (option_map hint.Step) (place_decimal step f)

pub hint_is : (h : Hint) (w : List ℕ) → hint_of w ≡ Some h → (w ≡ hint_word h) × (hint_fits h ≡ true)
hint_is h [] e = absurd (cc)
hint_is h (c ∷ cs) e = elim (c == 98) as (λ b. (c == 98) ≡ b → (if b then option_map hint.Book (spelt (2 ^ 32) cs) else (if c == 115 then option_map hint.Step (place cs) else None)) ≡ Some h
    → ((c ∷ cs) ≡ hint_word h) × (hint_fits h ≡ true)) [
      | true ↦ λ m f. of_book (spelt (2 ^ 32) cs) refl f (same_number c 98 m)
      | false ↦ λ m f. other f
    ] refl e
  where
    of_book : (read : Option ℕ) → spelt (2 ^ 32) cs ≡ read → option_map hint.Book read ≡ Some h → c ≡ 98 → ((c ∷ cs) ≡ hint_word h) × (hint_fits h ≡ true)
    of_book None e f m = absurd (cc)
    of_book (Some n) e f m =
        let is = spelt_is (2 ^ 32) n cs (omega arith) e in
        let same : hint.Book n ≡ h = cc in
        rw (← same) (rw (m, is.0) refl, below_true n (2 ^ 32) is.1)

    of_step : (read : Option ℕ) → place cs ≡ read → option_map hint.Step read ≡ Some h → c ≡ 115 → ((c ∷ cs) ≡ hint_word h) × (hint_fits h ≡ true)
    of_step None e f m = absurd (cc)
    of_step (Some n) e f m =
        let is = place_is n cs e in
        let same : hint.Step n ≡ h = cc in
        rw (← same) (rw (m, is.0) refl, is.1)

    other : (if c == 115 then option_map hint.Step (place cs) else None) ≡ Some h → ((c ∷ cs) ≡ hint_word h) × (hint_fits h ≡ true)
    other f = elim (c == 115) as (λ b. (c == 115) ≡ b → (if b then option_map hint.Step (place cs) else None) ≡ Some h → ((c ∷ cs) ≡ hint_word h) × (hint_fits h ≡ true)) [
      | true ↦ λ m g. of_step (place cs) refl g (same_number c 115 m)
      | false ↦ λ m g. absurd (cc)
    ] refl f

pub hint_word_inside : (h : Hint) → hint_fits h ≡ true → is_unspaced (hint_word h) ≡ true
hint_word_inside (hint.Book rule) f = let low : rule < 2 ^ 32 = ltb-true rule (2 ^ 32) f in decimal_word rule (omega arith)
hint_word_inside (hint.Step step) f = decimal_word step (ltb-true step (2 ^ 64) f)
