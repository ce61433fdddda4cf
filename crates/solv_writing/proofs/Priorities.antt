-- A priority is written so that it is read again.
use Rattle.std.proofs.Common.{ℕ, suc, zero, ◌≡◌, ◌∙◌, ◌+◌, ◌-◌, ◌<◌, ◌≤◌, true, false, Bool, List, [], ◌∷◌, ◌++◌, Option, Some, None, refl, ap, arith}
use Rattle.std.specs.Prelude.{ℤ, pos, negsuc, neg_ℤ, nat_le, ◌==◌, ◌%◌, ◌^◌, if◌then◌else◌}
use Rattle.std.specs.Char.{is_ascii_digit}
use Rattle.std.specs.Fmt.{decimal, signed_decimal}
use Rattle.std.specs.List.{list_all}
use Rattle.std.specs.Str.Parse.{digits_value}
use Rattle.std.proofs.lemmas.Bool.{and_from}
use Rattle.std.proofs.lemmas.Bool.Decides.{nat_tests}
use Rattle.std.proofs.lemmas.Fmt.{decimal_by_steps, decimal_is_IsNumeral}
use Rattle.solv_commands.specs.Numbers.{number, signed, priority}
use Rattle.solv_list.proofs.Booleans.{first_of_both, second_of_both}
use Rattle.solv_list.proofs.Lists.{list_all_join}
use Rattle.solv_list.proofs.Numbers.{at_most_true, true_at_most}
use Rattle.solv_io.specs.JoinedWords.{is_solid, is_word}
use Rattle.solv_list.proofs.Digits.{digit_more}

abbrev are_digits : List ℕ → Bool
are_digits w = list_all is_ascii_digit w

-- digits, one at least
abbrev is_number : List ℕ → Bool
is_number [] = false
is_number (c ∷ cs) = are_digits (c ∷ cs)

remainder_small : (n : ℕ) → n % 10 < 10
remainder_small n = omega arith

number_more : (ds : List ℕ) (d : ℕ) → is_number ds ≡ true → is_ascii_digit d ≡ true → is_number (ds ++ d ∷ []) ≡ true
number_more [] d h k = absurd (cc)
number_more (c ∷ cs) d h k = list_all_join is_ascii_digit (c ∷ cs) (d ∷ []) h (and_from (is_ascii_digit d) true k refl)

decimal_number : (n : ℕ) → n < 2 ^ 64 → is_number (decimal n) ≡ true
decimal_number n small =
    decimal_by_steps (λ m ds. is_number ds ≡ true) (λ m l. and_from (is_ascii_digit (48 + m)) true (digit_more m l) refl)
    (λ m ds ten before. number_more ds (48 + m % 10) before (digit_more (m % 10) (remainder_small m))) n small

digit_solid : (c : ℕ) → is_ascii_digit c ≡ true → is_solid c ≡ true
digit_solid c h = grind (arith, nat_tests)

digits_solid : (w : List ℕ) → are_digits w ≡ true → list_all is_solid w ≡ true
digits_solid [] h = refl
digits_solid (c ∷ cs) h = and_from (is_solid c) (list_all is_solid cs) (digit_solid c (first_of_both (is_ascii_digit c) (are_digits cs) h)) (digits_solid cs (second_of_both (is_ascii_digit c) (are_digits cs) h))

number_word : (w : List ℕ) → is_number w ≡ true → is_word w ≡ true
number_word [] h = absurd (cc)
number_word (c ∷ cs) h = digits_solid (c ∷ cs) h

minus_word : (w : List ℕ) → is_number w ≡ true → is_word (45 ∷ w) ≡ true
minus_word [] h = absurd (cc)
minus_word (c ∷ cs) h = digits_solid (c ∷ cs) h

number_is : (w : List ℕ) (n : ℕ) → is_number w ≡ true → digits_value 10 w ≡ n → number w ≡ Some n
number_is [] n h e = absurd (cc)
number_is (c ∷ cs) n h e = rw h (ap Some e)

signed_is : (most : ℕ) (sign : ℕ → ℤ) (n : ℕ) → n ≤ most → signed most sign (Some n) ≡ Some (sign n)
signed_is most sign n h = rw (at_most_true n most h) refl

positive : (w : List ℕ) (n : ℕ) → is_number w ≡ true → digits_value 10 w ≡ n → n ≤ 2 ^ 31 - 1 → priority w ≡ Some (pos n)
positive [] n h e l = absurd (cc)
positive (c ∷ cs) n h e l =
    let digit : is_ascii_digit c ≡ true = first_of_both (is_ascii_digit c) (are_digits cs) h in
    let plus : (c == 45) ≡ false = grind (arith, nat_tests) in
    rw plus (ap (signed (2 ^ 31 - 1) pos) (number_is (c ∷ cs) n h e) ∙ signed_is (2 ^ 31 - 1) pos n l)

negative : (w : List ℕ) (n : ℕ) → is_number w ≡ true → digits_value 10 w ≡ n → n ≤ 2 ^ 31 → priority (45 ∷ w) ≡ Some (neg_ℤ (pos n))
negative w n h e l = ap (signed (2 ^ 31) (λ n. neg_ℤ (pos n))) (number_is w n h e) ∙ signed_is (2 ^ 31) (λ n. neg_ℤ (pos n)) n l

-- a priority that was read
pub record IsPriority (z : ℤ) : Type 0 where
  pub again : priority (signed_decimal z) ≡ Some z
  pub word : is_word (signed_decimal z) ≡ true

of_positive : (n : ℕ) → n ≤ 2 ^ 31 - 1 → IsPriority (pos n)
of_positive n l =
    let small : n < 2 ^ 64 = omega (arith, l) in
    record { again = positive (decimal n) n (decimal_number n small) ((decimal_is_IsNumeral n small).1) l; word = number_word (decimal n) (decimal_number n small) }

of_negative : (n : ℕ) → suc n ≤ 2 ^ 31 → IsPriority (negsuc n)
of_negative n l =
    let small : suc n < 2 ^ 64 = omega (arith, l) in
    record { again = negative (decimal (suc n)) (suc n) (decimal_number (suc n) small) ((decimal_is_IsNumeral (suc n) small).1) l; word = minus_word (decimal (suc n)) (decimal_number (suc n) small) }

of_minus : (n : ℕ) → n ≤ 2 ^ 31 → IsPriority (neg_ℤ (pos n))
of_minus zero l = of_positive 0 (omega arith)
of_minus (suc n) l = of_negative n l

signed_priority : (most : ℕ) (sign : ℕ → ℤ) → ((n : ℕ) → n ≤ most → IsPriority (sign n)) → (o : Option ℕ) (z : ℤ) → signed most sign o ≡ Some z → IsPriority z
signed_priority most sign of None z h = absurd (cc)
signed_priority most sign of (Some n) z h =
    (elim (nat_le n most) as (λ b. nat_le n most ≡ b → (if b then Some (sign n) else None) ≡ Some z → IsPriority z) [
      | true ↦ λ e g. let same : sign n ≡ z = (let s : Some (sign n) ≡ Some z = g in cc) in transport n same (of n (true_at_most n most e))
      | false ↦ λ e g. absurd (let bad : None ≡ Some z = g in cc)
    ]) refl h
  where
    transport : (n : ℕ) → sign n ≡ z → IsPriority (sign n) → IsPriority z
    transport n e i = rw (← e) i

-- what was read is written so that it is read again
pub priority_again : (w : List ℕ) (z : ℤ) → priority w ≡ Some z → IsPriority z
priority_again [] z h = absurd (cc)
priority_again (c ∷ cs) z h =
    (elim (c == 45) as (λ b. (if b then signed (2 ^ 31) (λ n. neg_ℤ (pos n)) (number cs) else signed (2 ^ 31 - 1) pos (number (c ∷ cs))) ≡ Some z → IsPriority z) [
      | true ↦ λ g. signed_priority (2 ^ 31) (λ n. neg_ℤ (pos n)) of_minus (number cs) z g
      | false ↦ λ g. signed_priority (2 ^ 31 - 1) pos of_positive (number (c ∷ cs)) z g
    ]) h
