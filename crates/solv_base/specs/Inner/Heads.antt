-- The token that stands first in a text, or its end, as a walk over the text meets them.
use Rattle.std.specs.Prelude.{ℕ, ◌==◌, ◌||◌, Bool, ⊤, List, [], ◌∷◌, Option, Some, None}
use Rattle.std.specs.Char.{is_ascii_digit, is_ascii_alphabetic}
use Rattle.std.specs.Str.Parse.{AllDigits}
use Rattle.std.specs.Ordering.{nat_cmp}
use Rattle.std.specs.declared.cmp.Ordering.{Ordering}
use Rattle.solv_base.specs.declared.version.tokens.Head.{Head}
use Rattle.solv_base.specs.declared.version.tokens.Head.TheVariants.{Tilde, End, Caret, Letters, Digits}
use Rattle.solv_base.specs.Tokens.{Token, tilde, caret, letters, digits, rank, token_cmp}

-- none is the end
abbrev pub head_token : Head → Option Token
head_token Tilde = Some tilde
head_token End = None
head_token Caret = Some caret
head_token (Letters cs) = Some (letters cs.now)
head_token (Digits cs) = Some (digits cs.now)

-- a run of digits has digits alone
abbrev pub HasDigits : Head → Type 0
HasDigits Tilde = ⊤
HasDigits End = ⊤
HasDigits Caret = ⊤
HasDigits (Letters cs) = ⊤
HasDigits (Digits cs) = AllDigits 10 cs.now

-- the tokens of a text that begins with this one; after the end there are none
abbrev pub tokens_from : Option Token → List Token → List Token
tokens_from None ts = []
tokens_from (Some t) ts = t ∷ ts

-- what stands at one place of two lists
abbrev pub heads_cmp : Option Token → Option Token → Ordering
heads_cmp (Some s) (Some t) = token_cmp s t
heads_cmp (Some s) None = nat_cmp (rank (Some s)) (rank None)
heads_cmp None t = nat_cmp (rank None) (rank t)

-- this byte is a token or a part of one
abbrev pub stands_in_token : ℕ → Bool
stands_in_token c = c == 126 || (c == 94 || (is_ascii_digit c || is_ascii_alphabetic c))
