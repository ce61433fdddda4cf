-- What reading a dependency gives: its tree, or the first cause from left to right.
use Rattle.std.specs.Prelude.{ℕ, ◌+◌, List, [], ◌∷◌, length, codes, Option, Some, None, Result, Ok, Err, if◌then◌else◌, nat_le, nat_lt}
use Rattle.std.specs.Option.{option_map, option_and_then}
use Rattle.std.specs.Str.{bytes_eq}
use Rattle.solv_base.specs.declared.comparison.Cmp.{Cmp}
use Rattle.solv_base.specs.Dependency.{Dep, Connective, Condition, versioned, one, joined, under, under_else}
use Rattle.solv_deps.specs.declared.fault.DepFault.{DepFault}
use Rattle.solv_deps.specs.declared.fault.DepFault.TheVariants.{BadOperator, MissingOperand, MixedOperators, UnclosedParenthesis, TooDeep, OperatorNotHere}
use Rattle.solv_deps.specs.declared.place.Place.{Place}
use Rattle.solv_deps.specs.Grammar.{Operator, joins, conditions, otherwise, operator, comparison, is_plain, is_namespace, named, is_chain}
use Rattle.solv_deps.specs.Table.{stands_at}
use Rattle.solv_deps.specs.Words.{words}

-- What stands before an operand in its parentheses.
pub data Hand : Type 0 where
  nothing alone : Hand  -- the first operand; C in A <IF> (B <ELSE> C), behind which no operator may stand
  in_joined : Connective → Dep (List ℕ) → Hand  -- A &, A |, A +, A -
  in_condition : Condition → Dep (List ℕ) → Hand  -- A <IF>, A <UNLESS>
  in_else : Condition → Dep (List ℕ) → Dep (List ℕ) → Hand  -- A <IF> B <ELSE>

-- What the next word has to be: an operand, an EVR after a name and a comparison, or an operator, and after a bare name a comparison or an operator.
pub data Due : Type 0 where
  operand_due : Due
  evr_due : List ℕ → Cmp → Due
  operator_due : Option (List ℕ) → Dep (List ℕ) → Due

-- What stands before the operand in hand in each of the open parentheses, the innermost first, and last outside of all; how many operators stand so far; what is due.
pub record Point : Type 0 where
  pub hands : List Hand
  pub operators : ℕ
  pub due : Due

-- the dependency that these make with their last operand
abbrev pub whole : Hand → Dep (List ℕ) → Dep (List ℕ)
whole (in_joined j a) d = joined j a d
whole (in_condition k a) d = under k a d
whole (in_else k a b) d = under_else k a b d
whole hand d = d

-- the next step, where there was no cause
abbrev pub and_then : {A B E : Type 0} → Result A E → (A → Result B E) → Result B E
and_then (Ok x) f = f x
and_then (Err e) f = Err e

-- what stands before the next operand, after an operand and an operator. An `<ELSE>` belongs to the `<IF>` or `<UNLESS>` before it, or before the parentheses that its operand begins
abbrev pub goes_on : List Hand → Dep (List ℕ) → Operator → Result (List Hand) DepFault
goes_on (nothing ∷ outer) d (joins j) = Ok (in_joined j d ∷ outer)
goes_on (nothing ∷ outer) d (conditions k) = Ok (in_condition k d ∷ outer)
goes_on (nothing ∷ in_condition k a ∷ outer) d otherwise = Ok (alone ∷ in_else k a d ∷ outer)
goes_on (in_condition k a ∷ outer) d otherwise = Ok (in_else k a d ∷ outer)
goes_on (in_joined i a ∷ outer) d (joins j) = if is_chain j (joined i a d) then Ok (in_joined j (joined i a d) ∷ outer) else Err MixedOperators
goes_on hands d otherwise = Err BadOperator
goes_on hands d o = Err MixedOperators

-- an operator after an operand; its own causes come before the limit of 64
abbrev pub at_operator : Point → Dep (List ℕ) → Operator → Result Point DepFault
at_operator p d o = and_then (goes_on p.hands d o)
    (λ hands. if nat_le 64 p.operators then Err TooDeep else Ok (record { hands = hands; operators = p.operators + 1; due = operand_due }))

-- a closing parenthesis
abbrev pub close : Point → List Hand → Dep (List ℕ) → Result Point DepFault
close p (hand ∷ outer ∷ others) d = Ok (record p { hands = outer ∷ others; due = operator_due None (whole hand d) })
close p hands d = Err BadOperator

-- the next word, by what is due
abbrev pub step : Point → Due → List ℕ → Result Point DepFault
step p operand_due word =
    if bytes_eq (codes "(") word then (if nat_lt 64 (length p.hands) then Err TooDeep else Ok (record p { hands = nothing ∷ p.hands }))
    else (if is_plain word then Ok (record p { due = operator_due (if is_namespace word then None else Some word) (named word) }) else Err MissingOperand)
step p (evr_due name c) word = if is_plain word then Ok (record p { due = operator_due None (one (versioned name c word)) }) else Err MissingOperand
step p (operator_due name d) word = elim (option_and_then (λ n. option_map (evr_due n) (comparison word)) name) [
  | Some due ↦ Ok (record p { due = due })
  | None ↦ elim (operator word) [ Some o ↦ at_operator p d o | None ↦ if bytes_eq (codes ")") word then close p p.hands d else Err BadOperator ]
]

-- the end of the text
abbrev pub ended : Due → List Hand → Result (Dep (List ℕ)) DepFault
ended (operator_due name d) (hand ∷ []) = Ok (whole hand d)
ended (operator_due name d) hands = Err UnclosedParenthesis
ended due hands = Err MissingOperand

-- what the words after a point give
abbrev pub reading_from : Point → List (List ℕ) → Result (Dep (List ℕ)) DepFault
reading_from p [] = ended p.due p.hands
reading_from p (word ∷ others) = and_then (step p p.due word) (λ q. reading_from q others)

-- what the words of a text give, wherever it stands
abbrev pub reading : List (List ℕ) → Result (Dep (List ℕ)) DepFault
reading words = reading_from (record { hands = nothing ∷ []; operators = 0; due = operand_due }) words

-- what a text gives at a place, where a table says what may stand: its tree, or its first cause
abbrev pub dependency : Place → List ℕ → Result (Dep (List ℕ)) DepFault
dependency place text = and_then (reading (words text)) (λ d. if stands_at place d then Ok d else Err OperatorNotHere)
