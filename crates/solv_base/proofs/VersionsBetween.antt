-- Between two versions stands the lower one with `^` and enough `~` after it.
use Rattle.std.proofs.Common.{ℕ, zero, suc, ◌≡◌, ◌<◌, List, [], ◌∷◌, ◌++◌, Bool, true, false, length, refl, ap, ◌∙◌, arith}
use Rattle.std.proofs.lemmas.Cmp.{tied_itself, nat_cmp_total, lists_total}
use Rattle.std.specs.Char.{is_ascii_digit, is_ascii_alphabetic}
use Rattle.std.specs.Prelude.{◌==◌, if◌then◌else◌}
use Rattle.std.specs.Str.Parse.{digits_value}
use Rattle.std.specs.declared.cmp.Ordering.TheVariants.{Less, Equal, Greater}
use Rattle.solv_base.specs.Tokens.{Token, tilde, caret, letters, digits, tokens, lengthen, begins, token_cmp, tokens_cmp, version_cmp}
use Rattle.solv_list.proofs.Numbers.{then_less}

abbrev pub tildes : ℕ → List ℕ
tildes zero = []
tildes (suc n) = 126 ∷ tildes n

abbrev tilde_tokens : ℕ → List Token
tilde_tokens zero = []
tilde_tokens (suc n) = tilde ∷ tilde_tokens n

tokens-tildes : (n : ℕ) → tokens (tildes n) ≡ tilde_tokens n
tokens-tildes zero = refl
tokens-tildes (suc n) = ap (λ ts. tilde ∷ ts) (tokens-tildes n)

-- how `tokens` reads one byte by its four tests, and by whether a run goes on
abbrev reading : Bool → Bool → Bool → Bool → Bool → Bool → ℕ → List Token → List Token
reading is_tilde is_caret is_digit is_letter digits_on letters_on c ts =
    if is_tilde then tilde ∷ ts
    else (if is_caret then caret ∷ ts
    else (if is_digit then (if digits_on then lengthen c ts else digits (c ∷ []) ∷ ts)
    else (if is_letter then (if letters_on then lengthen c ts else letters (c ∷ []) ∷ ts)
    else ts)))

-- a byte that is a token by itself
record IsSign (sign : ℕ) (t : Token) : Type 0 where
  reads : (ys : List ℕ) → tokens (sign ∷ ys) ≡ t ∷ tokens ys
  alone : (c : ℕ) (us : List Token) → lengthen c (t ∷ us) ≡ t ∷ us
  no_digit : is_ascii_digit sign ≡ false
  no_letter : is_ascii_alphabetic sign ≡ false

tilde_sign : IsSign 126 tilde
tilde_sign = record { reads = λ ys. refl; alone = λ c us. refl; no_digit = refl; no_letter = refl }

caret_sign : IsSign 94 caret
caret_sign = record { reads = λ ys. refl; alone = λ c us. refl; no_digit = refl; no_letter = refl }

lengthen-append : {sign : ℕ} {t : Token} → IsSign sign t → (c : ℕ) (ts us : List Token) → lengthen c (ts ++ t ∷ us) ≡ lengthen c ts ++ t ∷ us
lengthen-append is c [] us = is.alone c us
lengthen-append is c (tilde ∷ ts) us = refl
lengthen-append is c (caret ∷ ts) us = refl
lengthen-append is c (letters cs ∷ ts) us = refl
lengthen-append is c (digits cs ∷ ts) us = refl

reading-append : {sign : ℕ} {t : Token} → IsSign sign t → (p q r s a b : Bool) (c : ℕ) (ts us : List Token) → reading p q r s a b c (ts ++ t ∷ us) ≡ reading p q r s a b c ts ++ t ∷ us
reading-append is true q r s a b c ts us = refl
reading-append is false true r s a b c ts us = refl
reading-append is false false true s true b c ts us = lengthen-append is c ts us
reading-append is false false true s false b c ts us = refl
reading-append is false false false true a true c ts us = lengthen-append is c ts us
reading-append is false false false true a false c ts us = refl
reading-append is false false false false a b c ts us = refl

pub begins-append : (kind : ℕ → Bool) (sign : ℕ) (cs ys : List ℕ) → kind sign ≡ false → begins kind (cs ++ sign ∷ ys) ≡ begins kind cs
begins-append kind sign [] ys h = h
begins-append kind sign (c ∷ cs) ys h = refl

tokens-append : (sign : ℕ) (t : Token) → IsSign sign t → (v ys : List ℕ) → tokens (v ++ sign ∷ ys) ≡ tokens v ++ t ∷ tokens ys
tokens-append sign t is [] ys = is.reads ys
tokens-append sign t is (c ∷ cs) ys =
    (λ i. reading (c == 126) (c == 94) (is_ascii_digit c) (is_ascii_alphabetic c) (begins-append is_ascii_digit sign cs ys is.no_digit i) (begins-append is_ascii_alphabetic sign cs ys is.no_letter i) c (tokens-append sign t is cs ys i)) ∙
    reading-append is (c == 126) (c == 94) (is_ascii_digit c) (is_ascii_alphabetic c) (begins is_ascii_digit cs) (begins is_ascii_alphabetic cs) c (tokens cs) (tokens ys)

token_same : (t : Token) → token_cmp t t ≡ Equal
token_same tilde = refl
token_same caret = refl
token_same (letters cs) = tied_itself (lists_total nat_cmp_total) cs
token_same (digits cs) = tied_itself nat_cmp_total (digits_value 10 cs)

tildes_below : (n : ℕ) (ts : List Token) → length ts < n → tokens_cmp (tilde_tokens n) ts ≡ Less
tildes_below zero ts h = absurd (omega arith)
tildes_below (suc n) [] h = refl
tildes_below (suc n) (tilde ∷ ts) h = tildes_below n ts (omega arith)
tildes_below (suc n) (caret ∷ ts) h = refl
tildes_below (suc n) (letters cs ∷ ts) h = refl
tildes_below (suc n) (digits cs ∷ ts) h = refl

still_below : (ss ts : List Token) (n : ℕ) → length ts < n → tokens_cmp ss ts ≡ Less → tokens_cmp (ss ++ caret ∷ tilde_tokens n) ts ≡ Less
still_below [] [] n h low = cc
still_below [] (tilde ∷ ts) n h low = cc
still_below [] (caret ∷ ts) n h low = tildes_below n ts (omega arith)
still_below [] (letters cs ∷ ts) n h low = refl
still_below [] (digits cs ∷ ts) n h low = refl
still_below (tilde ∷ ss) [] n h low = refl
still_below (caret ∷ ss) [] n h low = cc
still_below (letters cs ∷ ss) [] n h low = cc
still_below (digits cs ∷ ss) [] n h low = cc
still_below (s ∷ ss) (t ∷ ts) n h low =
    then_less (token_cmp s t) (tokens_cmp ss ts) (tokens_cmp (ss ++ caret ∷ tilde_tokens n) ts) (still_below ss ts n (omega arith)) low

longer_above : (ss us : List Token) → tokens_cmp (ss ++ caret ∷ us) ss ≡ Greater
longer_above [] us = refl
longer_above (s ∷ ss) us = rw (token_same s) (longer_above ss us)

shorter_above : (ss us : List Token) → tokens_cmp (ss ++ tilde ∷ us) ss ≡ Less
shorter_above [] us = refl
shorter_above (s ∷ ss) us = rw (token_same s) (shorter_above ss us)

-- a version with `^` after it is higher
pub higher_version : (v ys : List ℕ) → version_cmp (v ++ 94 ∷ ys) v ≡ Greater
higher_version v ys = rw (tokens-append 94 caret caret_sign v ys) (longer_above (tokens v) (tokens ys))

-- and with `~` after it lower
pub lower_version : (v ys : List ℕ) → version_cmp (v ++ 126 ∷ ys) v ≡ Less
lower_version v ys = rw (tokens-append 126 tilde tilde_sign v ys) (shorter_above (tokens v) (tokens ys))

-- a version with `^` and enough `~` after it stays below a higher one
pub still_lower_version : (v u : List ℕ) (n : ℕ) → length (tokens u) < n → version_cmp v u ≡ Less → version_cmp (v ++ 94 ∷ tildes n) u ≡ Less
still_lower_version v u n h low = rw (tokens-append 94 caret caret_sign v (tildes n), tokens-tildes n) (still_below (tokens v) (tokens u) n h low)
