-- A run of digits or of letters is one token, and the tokens after it are those of a text of its own.
use Rattle.std.proofs.Common.{ℕ, ◌≡◌, ◌+◌, ◌<◌, List, [], ◌∷◌, Bool, true, false, take, drop, get_or, refl, ap, ◌∙◌, arith, cond, eqb}
use Rattle.std.proofs.lemmas.Bool.Decides.{nat_tests}
use Rattle.std.specs.Char.{is_ascii_digit, is_ascii_alphabetic, digit_value}
use Rattle.std.specs.List.{prefix_len}
use Rattle.std.specs.Str.Parse.{AllDigits}
use Rattle.solv_base.specs.Tokens.{Token, letters, digits, tokens, begins, lengthen}
use Rattle.solv_base.specs.Inner.Heads.{stands_in_token}
use Rattle.solv_list.proofs.Lists.{drop_one_more, take_one_more}

tokens-digit : (c : ℕ) (cs : List ℕ) → is_ascii_digit c ≡ true → tokens (c ∷ cs) ≡ cond (begins is_ascii_digit cs) (lengthen c (tokens cs)) (digits (c ∷ []) ∷ tokens cs)
tokens-digit c cs h =
    let tilde : eqb c 126 ≡ false = grind (arith, nat_tests) in
    let caret : eqb c 94 ≡ false = grind (arith, nat_tests) in
    rw (tilde, caret, h) refl

tokens-letter : (c : ℕ) (cs : List ℕ) → is_ascii_alphabetic c ≡ true → tokens (c ∷ cs) ≡ cond (begins is_ascii_alphabetic cs) (lengthen c (tokens cs)) (letters (c ∷ []) ∷ tokens cs)
tokens-letter c cs h =
    let tilde : eqb c 126 ≡ false = grind (arith, nat_tests) in
    let caret : eqb c 94 ≡ false = grind (arith, nat_tests) in
    let digit : is_ascii_digit c ≡ false = grind (arith, nat_tests) in
    rw (tilde, caret, digit, h) refl

-- a run of a kind that `run` makes a token of
run_cut : (kind : ℕ → Bool) (run : List ℕ → Token)
    → ((c : ℕ) (cs : List ℕ) (ts : List Token) → lengthen c (run cs ∷ ts) ≡ run (c ∷ cs) ∷ ts)
    → ((c : ℕ) (cs : List ℕ) → kind c ≡ true → tokens (c ∷ cs) ≡ cond (begins kind cs) (lengthen c (tokens cs)) (run (c ∷ []) ∷ tokens cs))
    → (c : ℕ) (cs : List ℕ) → kind c ≡ true
    → tokens (c ∷ cs) ≡ run (c ∷ take (prefix_len kind cs) cs) ∷ tokens (drop (prefix_len kind cs) cs)
run_cut kind run longer reads c [] h = reads c [] h
run_cut kind run longer reads c (d ∷ ds) h =
    reads c (d ∷ ds) h ∙
    elim (kind d) as (λ b. kind d ≡ b → cond b (lengthen c (tokens (d ∷ ds))) (run (c ∷ []) ∷ tokens (d ∷ ds)) ≡ run (c ∷ take (cond b (1 + prefix_len kind ds) 0) (d ∷ ds)) ∷ tokens (drop (cond b (1 + prefix_len kind ds) 0) (d ∷ ds))) [
      | true ↦ λ e. rw (take_one_more (prefix_len kind ds) d ds, drop_one_more (prefix_len kind ds) d ds) (ap (lengthen c) (run_cut kind run longer reads d ds e) ∙ longer c (d ∷ take (prefix_len kind ds) ds) (tokens (drop (prefix_len kind ds) ds)))
      | false ↦ λ e. refl
    ] refl

run_taken : (kind : ℕ → Bool) (c : ℕ) (cs : List ℕ) (n : ℕ) → kind c ≡ true → n ≡ prefix_len kind (c ∷ cs) → take n (c ∷ cs) ≡ c ∷ take (prefix_len kind cs) cs
run_taken kind c cs n h e = rw (e, h) (take_one_more (prefix_len kind cs) c cs)

run_left : (kind : ℕ → Bool) (c : ℕ) (cs : List ℕ) (n : ℕ) → kind c ≡ true → n ≡ prefix_len kind (c ∷ cs) → drop n (c ∷ cs) ≡ drop (prefix_len kind cs) cs
run_left kind c cs n h e = rw (e, h) (drop_one_more (prefix_len kind cs) c cs)

pub digits_cut : (text : List ℕ) (n : ℕ) → is_ascii_digit (get_or text 0 0) ≡ true → n ≡ prefix_len is_ascii_digit text
    → tokens text ≡ digits (take n text) ∷ tokens (drop n text)
digits_cut [] n h e = cc
digits_cut (c ∷ cs) n h e =
    rw (run_taken is_ascii_digit c cs n h e, run_left is_ascii_digit c cs n h e) (run_cut is_ascii_digit digits (λ b bs ts. refl) tokens-digit c cs h)

pub letters_cut : (text : List ℕ) (n : ℕ) → is_ascii_alphabetic (get_or text 0 0) ≡ true → n ≡ prefix_len is_ascii_alphabetic text
    → tokens text ≡ letters (take n text) ∷ tokens (drop n text)
letters_cut [] n h e = cc
letters_cut (c ∷ cs) n h e =
    rw (run_taken is_ascii_alphabetic c cs n h e, run_left is_ascii_alphabetic c cs n h e) (run_cut is_ascii_alphabetic letters (λ b bs ts. refl) tokens-letter c cs h)

digit_below : (c : ℕ) → is_ascii_digit c ≡ true → digit_value c < 10
digit_below c h = grind (arith, nat_tests)

pub digits_all : (text : List ℕ) → AllDigits 10 (take (prefix_len is_ascii_digit text) text)
digits_all [] = tt
digits_all (c ∷ cs) =
    elim (is_ascii_digit c) as (λ b. is_ascii_digit c ≡ b → AllDigits 10 (take (cond b (1 + prefix_len is_ascii_digit cs) 0) (c ∷ cs))) [
      | true ↦ λ e. rw (take_one_more (prefix_len is_ascii_digit cs) c cs) (digit_below c e, digits_all cs)
      | false ↦ λ e. tt
    ] refl

-- a byte of a token that is neither `~`, `^` nor a digit is a letter
pub letter_left : (c : ℕ) → stands_in_token c ≡ true → (c ≡ 126 → ⊥) → (c ≡ 94 → ⊥) → is_ascii_digit c ≡ false → is_ascii_alphabetic c ≡ true
letter_left c h a b d = grind (arith, nat_tests)
