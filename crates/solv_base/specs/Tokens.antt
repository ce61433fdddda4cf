-- How an epoch, a version or a release is read as tokens, and how tokens compare: this project's profile of rpm-version(7).
use Rattle.std.specs.Prelude.{ℕ, ◌==◌, Bool, false, List, [], ◌∷◌, Option, Some, None, if◌then◌else◌}
use Rattle.std.specs.Char.{is_ascii_digit, is_ascii_alphabetic}
use Rattle.std.specs.Str.Parse.{digits_value}
use Rattle.std.specs.Ordering.{nat_cmp, ordering_then}
use Rattle.std.specs.Cmp.Lexicographic.{slice_cmp}
use Rattle.std.specs.declared.cmp.Ordering.{Ordering}
use Rattle.std.specs.declared.cmp.Ordering.TheVariants.{Equal}

-- a sign, or a whole run of letters or of digits
pub data Token : Type 0 where
  tilde : Token
  caret : Token
  letters : List ℕ → Token
  digits : List ℕ → Token

-- a byte of this kind stands first
abbrev pub begins : (ℕ → Bool) → List ℕ → Bool
begins kind [] = false
begins kind (c ∷ cs) = kind c

-- the first run, with one more byte before it
abbrev pub lengthen : ℕ → List Token → List Token
lengthen c [] = []
lengthen c (tilde ∷ ts) = tilde ∷ ts
lengthen c (caret ∷ ts) = caret ∷ ts
lengthen c (letters cs ∷ ts) = letters (c ∷ cs) ∷ ts
lengthen c (digits cs ∷ ts) = digits (c ∷ cs) ∷ ts

-- `~` (126) and `^` (94) are tokens, and so is each whole run of ASCII digits and of ASCII letters; other bytes only separate
abbrev pub tokens : List ℕ → List Token
tokens [] = []
tokens (c ∷ cs) =
    let ts : List Token = tokens cs in
    if c == 126 then tilde ∷ ts
    else (if c == 94 then caret ∷ ts
    else (if is_ascii_digit c then (if begins is_ascii_digit cs then lengthen c ts else digits (c ∷ []) ∷ ts)
    else (if is_ascii_alphabetic c then (if begins is_ascii_alphabetic cs then lengthen c ts else letters (c ∷ []) ∷ ts)
    else ts)))

-- the kinds in ascending order: `~`, the end of the list, `^`, letters, digits
abbrev pub rank : Option Token → ℕ
rank (Some tilde) = 0
rank None = 1
rank (Some caret) = 2
rank (Some (letters cs)) = 3
rank (Some (digits cs)) = 4

-- two runs of letters by byte order, two runs of digits by the numbers that they write, others by their kinds
abbrev pub token_cmp : Token → Token → Ordering
token_cmp (letters a) (letters b) = slice_cmp nat_cmp a b
token_cmp (digits a) (digits b) = nat_cmp (digits_value 10 a) (digits_value 10 b)
token_cmp s t = nat_cmp (rank (Some s)) (rank (Some t))

-- the first place where two lists differ decides, and the end stands there like a token
abbrev pub tokens_cmp : List Token → List Token → Ordering
tokens_cmp [] [] = Equal
tokens_cmp [] (t ∷ ts) = nat_cmp (rank None) (rank (Some t))
tokens_cmp (s ∷ ss) [] = nat_cmp (rank (Some s)) (rank None)
tokens_cmp (s ∷ ss) (t ∷ ts) = ordering_then (token_cmp s t) (tokens_cmp ss ts)

-- the order on epochs, on versions and on releases
abbrev pub version_cmp : List ℕ → List ℕ → Ordering
version_cmp a b = tokens_cmp (tokens a) (tokens b)
