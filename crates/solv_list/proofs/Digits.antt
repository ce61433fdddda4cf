-- Decimal digits and their values.
use Rattle.std.proofs.Common.{◌≡◌, ◌≤◌, ◌<◌, ℕ, ◌+◌, ◌*◌, ◌-◌, true, List, [], ◌∷◌, arith}
use Rattle.std.specs.Char.{is_ascii_digit, digit_value}
use Rattle.std.specs.Str.Parse.{digits_value_after}
use Rattle.std.proofs.lemmas.Bool.Decides.{nat_tests}

pub digit_at : (c : ℕ) → is_ascii_digit c ≡ true → digit_value c ≡ c - 48
digit_at c h = grind (arith, nat_tests)

pub digit_more : (d : ℕ) → d < 10 → is_ascii_digit (48 + d) ≡ true
digit_more d h = grind (arith, nat_tests)

pub value_grows : (value : ℕ) (digits : List ℕ) → value ≤ digits_value_after 10 value digits
value_grows value [] = omega arith
value_grows value (c ∷ cs) = let more : value * 10 + digit_value c ≤ digits_value_after 10 (value * 10 + digit_value c) cs = value_grows (value * 10 + digit_value c) cs in omega arith
