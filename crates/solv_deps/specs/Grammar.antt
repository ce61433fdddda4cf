-- The words of dependencies: rpm's boolean dependencies, with libsolv's signs or rpm's own words for the operators.
use Rattle.std.specs.Prelude.{ℕ, ◌-◌, Bool, true, false, not, ◌&&◌, List, [], ◌∷◌, length, drop, take, Option, Some, None, codes, is_none, if◌then◌else◌}
use Rattle.std.specs.List.{find, list_any}
use Rattle.std.specs.Option.{option_or}
use Rattle.std.specs.Str.{bytes_eq}
use Rattle.solv_base.specs.declared.comparison.Cmp.{Cmp}
use Rattle.solv_base.specs.Dependency.{Dep, Connective, Condition, plain, one, namespace, and, or, with, without, if_holds, unless_holds, joined}
use Rattle.solv_deps.specs.Words.{is_open, is_close}

-- an operator between dependencies: one that joins them, one that sets a condition, or `<ELSE>`
pub data Operator : Type 0 where
  joins : Connective → Operator
  conditions : Condition → Operator
  otherwise : Operator

-- libsolv's sign of an operator, and rpm's word for it
abbrev pub spellings : Operator → List ℕ × List ℕ
spellings (joins and) = (codes "&", codes "and")
spellings (joins or) = (codes "|", codes "or")
spellings (joins with) = (codes "+", codes "with")
spellings (joins without) = (codes "-", codes "without")
spellings (conditions if_holds) = (codes "<IF>", codes "if")
spellings (conditions unless_holds) = (codes "<UNLESS>", codes "unless")
spellings otherwise = (codes "<ELSE>", codes "else")

-- all operators
abbrev pub all_operators : List Operator
all_operators = joins and ∷ joins or ∷ joins with ∷ joins without ∷ conditions if_holds ∷ conditions unless_holds ∷ otherwise ∷ []

-- the operator of which a word is this spelling
abbrev pub operator_spelled : (Operator → List ℕ) → List ℕ → Option Operator
operator_spelled spelling word = find (λ o. bytes_eq (spelling o) word) all_operators

-- the operator that a word is, in either spelling
abbrev pub operator : List ℕ → Option Operator
operator word = option_or (operator_spelled (λ o. (spellings o).0) word) (operator_spelled (λ o. (spellings o).1) word)

-- the comparison that a word is
abbrev pub comparison : List ℕ → Option Cmp
comparison word =
    if bytes_eq (codes "<") word then Some (record { less = true; equal = false; greater = false })
    else (if bytes_eq (codes "<=") word then Some (record { less = true; equal = true; greater = false })
    else (if bytes_eq (codes "=") word then Some (record { less = false; equal = true; greater = false })
    else (if bytes_eq (codes ">=") word then Some (record { less = false; equal = true; greater = true })
    else (if bytes_eq (codes ">") word then Some (record { less = false; equal = false; greater = true })
    else (if bytes_eq (codes "<>") word then Some (record { less = true; equal = false; greater = true }) else None)))))

-- a name or an EVR, where one is due: any other word that is no operator's sign. So `and` is a name there.
abbrev pub is_plain : List ℕ → Bool
is_plain word =
    not (bytes_eq (codes "(") word) && (not (bytes_eq (codes ")") word)
    && (is_none (operator_spelled (λ o. (spellings o).0) word) && is_none (comparison word)))

-- a name that begins with `namespace:`, has a `(` and ends with `)`
abbrev pub is_namespace : List ℕ → Bool
is_namespace word = bytes_eq (codes "namespace:") (take 10 word) && (list_any is_open word && list_any is_close (drop (length word - 1) word))

-- the dependency that a name is
abbrev pub named : List ℕ → Dep (List ℕ)
named word = if is_namespace word then namespace word else one (plain word)

-- is it a chain of this operator? `-` makes none
abbrev pub is_chain : {N : Type 0} → Connective → Dep N → Bool
is_chain and (joined and a b) = true
is_chain or (joined or a b) = true
is_chain with (joined with a b) = true
is_chain j d = false
