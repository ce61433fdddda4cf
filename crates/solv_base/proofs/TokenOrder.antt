-- Tokens compare as lists of numbers do, and so their order is total.
use Rattle.std.proofs.Common.{ℕ, ◌≡◌, List, [], ◌∷◌, refl, sym, subst}
use Rattle.std.proofs.lemmas.Cmp.{tied_itself, on_total, lists_total, nat_cmp_total, then_total}
use Rattle.std.specs.Cmp.{IsTotalOrder}
use Rattle.std.specs.Cmp.Lexicographic.{slice_cmp, options_total}
use Rattle.std.specs.Ordering.{nat_cmp, ordering_then}
use Rattle.std.specs.Str.Parse.{digits_value}
use Rattle.std.specs.declared.cmp.Ordering.{Ordering}
use Rattle.std.specs.declared.cmp.Ordering.TheVariants.{Less, Equal, Greater}
use Rattle.solv_base.specs.Tokens.{Token, tilde, caret, letters, digits, token_cmp, tokens_cmp, tokens, version_cmp}
use Rattle.solv_base.specs.Evr.{Parts, parts, stem_cmp, parts_cmp, evr_cmp}

-- the place of the kind, and then the letters, or the number that the digits write
abbrev key : Token → List ℕ
key tilde = 0 ∷ []
key caret = 2 ∷ []
key (letters cs) = 3 ∷ cs
key (digits cs) = 4 ∷ digits_value 10 cs ∷ []

-- the keys of the tokens, and last that of the end
abbrev keys : List Token → List (List ℕ)
keys [] = (1 ∷ []) ∷ []
keys (t ∷ ts) = key t ∷ keys ts

abbrev keys_cmp : List (List ℕ) → List (List ℕ) → Ordering
keys_cmp = slice_cmp (slice_cmp nat_cmp)

then_equal : (r : Ordering) → r ≡ ordering_then r Equal
then_equal Less = refl
then_equal Equal = refl
then_equal Greater = refl

token_cmp-key : (s t : Token) → token_cmp s t ≡ slice_cmp nat_cmp (key s) (key t)
token_cmp-key tilde tilde = refl
token_cmp-key tilde caret = refl
token_cmp-key tilde (letters b) = refl
token_cmp-key tilde (digits b) = refl
token_cmp-key caret tilde = refl
token_cmp-key caret caret = refl
token_cmp-key caret (letters b) = refl
token_cmp-key caret (digits b) = refl
token_cmp-key (letters a) tilde = refl
token_cmp-key (letters a) caret = refl
token_cmp-key (letters a) (letters b) = refl
token_cmp-key (letters a) (digits b) = refl
token_cmp-key (digits a) tilde = refl
token_cmp-key (digits a) caret = refl
token_cmp-key (digits a) (letters b) = refl
token_cmp-key (digits a) (digits b) = then_equal (nat_cmp (digits_value 10 a) (digits_value 10 b))

tokens_cmp-keys : (ss ts : List Token) → tokens_cmp ss ts ≡ keys_cmp (keys ss) (keys ts)
tokens_cmp-keys [] [] = refl
tokens_cmp-keys [] (tilde ∷ ts) = refl
tokens_cmp-keys [] (caret ∷ ts) = refl
tokens_cmp-keys [] (letters b ∷ ts) = refl
tokens_cmp-keys [] (digits b ∷ ts) = refl
tokens_cmp-keys (tilde ∷ ss) [] = refl
tokens_cmp-keys (caret ∷ ss) [] = refl
tokens_cmp-keys (letters a ∷ ss) [] = refl
tokens_cmp-keys (digits a ∷ ss) [] = refl
tokens_cmp-keys (s ∷ ss) (t ∷ ts) = λ i. ordering_then (token_cmp-key s t i) (tokens_cmp-keys ss ts i)

tokens_total : IsTotalOrder tokens_cmp
tokens_total = subst IsTotalOrder (λ i ss ts. sym (tokens_cmp-keys ss ts) i) (on_total keys (lists_total (lists_total nat_cmp_total)))

pub version_total : IsTotalOrder version_cmp
version_total = on_total tokens tokens_total

pub version_same : (a b : List ℕ) → a ≡ b → Equal ≡ version_cmp a b
version_same a b e = rw (← e) (sym (tied_itself version_total a))

pub stem_total : IsTotalOrder stem_cmp
stem_total = then_total (on_total (λ (a : Parts). a.epoch) version_total) (on_total (λ (a : Parts). a.version) version_total)

pub parts_total : IsTotalOrder parts_cmp
parts_total = then_total stem_total (on_total (λ (a : Parts). a.release) (options_total version_total))

pub evr_total : IsTotalOrder evr_cmp
evr_total = on_total parts parts_total
