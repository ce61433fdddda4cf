-- The canonical text of a dependency: words joined by one space, and an operand that is itself rich in parentheses, except at
-- the front of a chain that has the same operator. Operators are written by their signs.
use Rattle.std.specs.Prelude.{ℕ, Bool, true, false, not, ◌||◌, List, [], ◌++◌, codes, if◌then◌else◌, nat_lt}
use Rattle.solv_base.specs.declared.comparison.Cmp.{Cmp}
use Rattle.solv_base.specs.Dependency.{Dep, plain, versioned, one, namespace, joined, under, under_else, missing}
use Rattle.solv_deps.specs.Words.{unpaired_in}
use Rattle.solv_deps.specs.Grammar.{Operator, joins, conditions, otherwise, spellings, is_chain}

-- the sign of a comparison
abbrev pub comparison_text : Cmp → List ℕ
comparison_text c = (if c.less then codes "<" else []) ++ ((if c.greater then codes ">" else []) ++ (if c.equal then codes "=" else []))

-- has it an operator?
abbrev pub is_rich : {N : Type 0} → Dep N → Bool
is_rich (one c) = false
is_rich (namespace n) = false
is_rich d = true

-- does a dependency that is not rich end in a word which has a `(` without a partner?
abbrev pub ends_unpaired : Dep (List ℕ) → Bool
ends_unpaired (one (plain w)) = nat_lt 0 (unpaired_in 0 w)
ends_unpaired (one (versioned w c e)) = nat_lt 0 (unpaired_in 0 e)
ends_unpaired (namespace w) = nat_lt 0 (unpaired_in 0 w)
ends_unpaired d = false

-- is a space due before a parenthesis that closes round this?
abbrev pub space_before_close : Dep (List ℕ) → Bool
space_before_close (joined j a b) = ends_unpaired b
space_before_close (under k a b) = ends_unpaired b
space_before_close (under_else k a b c) = ends_unpaired c
space_before_close d = false

-- an operand's text: a rich one stands in parentheses, and one that is not rich or goes on the chain stands bare
abbrev pub operand_text : Bool → Dep (List ℕ) → List ℕ → List ℕ
operand_text bare d text =
    if bare || not (is_rich d) then text else codes "(" ++ (text ++ ((if space_before_close d then codes " " else []) ++ codes ")"))

-- an operator's sign between spaces
abbrev pub spaced : Operator → List ℕ
spaced o = codes " " ++ ((spellings o).0 ++ codes " ")

-- the canonical text
abbrev pub text : Dep (List ℕ) → List ℕ
text (one (plain w)) = w
text (one (versioned w c e)) = w ++ (codes " " ++ (comparison_text c ++ (codes " " ++ e)))
text (namespace w) = w
text (joined j a b) = operand_text (is_chain j a) a (text a) ++ (spaced (joins j) ++ operand_text false b (text b))
text (under k a b) = operand_text false a (text a) ++ (spaced (conditions k) ++ operand_text false b (text b))
text (under_else k a b c) =
    operand_text false a (text a) ++ (spaced (conditions k) ++ (operand_text false b (text b) ++ (spaced otherwise ++ operand_text false c (text c))))
text missing = []
