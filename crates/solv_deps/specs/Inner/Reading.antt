-- The reading of a dependency's words as the code has it: the rule in hand at each point, and those that open parentheses interrupt.
use Rattle.std.specs.Prelude.{ℕ, ◌+◌, Bool, true, false, List, [], ◌∷◌, length, Option, Some, None, Result, Ok, Err, if◌then◌else◌, nat_le}
use Rattle.solv_base.specs.declared.comparison.Cmp.{Cmp}
use Rattle.solv_base.specs.Dependency.{Dep, versioned, one, without, joined, under, under_else}
use Rattle.solv_deps.specs.declared.fault.DepFault.{DepFault}
use Rattle.solv_deps.specs.declared.fault.DepFault.TheVariants.{BadOperator, MissingOperand, MixedOperators, UnclosedParenthesis, TooDeep}
use Rattle.solv_deps.specs.declared.sign.Joint.{Joint}
use Rattle.solv_deps.specs.declared.sign.Joint.TheVariants.{Both, Either, Jointly}
use Rattle.solv_deps.specs.declared.sign.Conditional.{Conditional}
use Rattle.solv_deps.specs.declared.sign.Operator.{Operator}
use Rattle.solv_deps.specs.declared.sign.Operator.TheVariants.{Link, Minus, Condition, Else}
use Rattle.solv_deps.specs.Expressions.{connective_of, condition_of}
use Rattle.solv_deps.specs.Grammar.{comparison, is_plain, is_namespace, named}
use Rattle.solv_deps.specs.Inner.Signs.{operator, opens, closes}
use Rattle.solv_deps.specs.Reading.{and_then}

-- The rule in hand: what stands before the operand in hand, in its parentheses.
pub data Hand : Type 0 where
  nothing : Hand  -- the first operand
  in_chain : Joint → Dep (List ℕ) → Hand  -- A &
  in_difference : Dep (List ℕ) → Hand  -- A -
  in_condition : Conditional → Dep (List ℕ) → Hand  -- A <IF>, A <UNLESS>
  in_else : Conditional → Dep (List ℕ) → Dep (List ℕ) → Hand  -- A <IF> B <ELSE>
  in_inner_else : Conditional → Dep (List ℕ) → Dep (List ℕ) → Hand  -- B <ELSE>, in the parentheses after A <IF>

-- What the next word has to be.
pub data Due : Type 0 where
  operand_due : Hand → Due
  evr_due : Hand → List ℕ → Cmp → Due
  -- an operand stands there; where it is a bare name, a comparison may follow
  operator_due : Hand → Option (List ℕ) → Dep (List ℕ) → Due

-- The rules that open parentheses interrupt, the innermost first; the operators so far; what is due.
pub record Point : Type 0 where
  pub outer : List Hand
  pub operators : ℕ
  pub due : Due

-- the dependency that the rule in hand makes with its last operand
abbrev pub whole : Hand → Dep (List ℕ) → Dep (List ℕ)
whole nothing d = d
whole (in_chain j a) d = joined (connective_of j) a d
whole (in_difference a) d = joined without a d
whole (in_condition k a) d = under (condition_of k) a d
whole (in_else k a b) d = under_else (condition_of k) a b d
whole (in_inner_else k a b) d = under_else (condition_of k) a b d

-- is it the same operator?
abbrev pub same_joint : Joint → Joint → Bool
same_joint Both Both = true
same_joint Either Either = true
same_joint Jointly Jointly = true
same_joint i j = false

-- a rule, if this holds
abbrev pub going_on_if : Bool → Hand → Option Hand
going_on_if b h = if b then Some h else None

-- `<ELSE>` after the first operand in parentheses: it belongs to the `<IF>` or `<UNLESS>` before them, if one stands there
abbrev pub inner_else : List Hand → Dep (List ℕ) → Option Hand
inner_else (in_condition k a ∷ outer) b = Some (in_inner_else k a b)
inner_else outer b = None

-- the rule in hand after an operand and an operator, where it goes on with this one
abbrev pub goes_on : List Hand → Hand → Dep (List ℕ) → Operator → Option Hand
goes_on outer nothing d (Link j) = Some (in_chain j d)
goes_on outer nothing d Minus = Some (in_difference d)
goes_on outer nothing d (Condition k) = Some (in_condition k d)
goes_on outer nothing d Else = inner_else outer d
goes_on outer (in_chain i a) d (Link j) = going_on_if (same_joint i j) (in_chain j (joined (connective_of i) a d))
goes_on outer (in_condition k a) d Else = Some (in_else k a d)
goes_on outer h d o = None

-- an `<ELSE>` that belongs to neither an `<IF>` nor an `<UNLESS>` is no operator there; others are mixed
abbrev pub refused_operator : Operator → DepFault
refused_operator Else = BadOperator
refused_operator o = MixedOperators

-- what is due after a closing parenthesis: `A <IF> (B <ELSE> C)` is `A <IF> B <ELSE> C`
abbrev pub closed : Hand → Hand → Dep (List ℕ) → Due
closed (in_inner_else k a b) outer c = operator_due (in_else k a b) None c
closed h outer d = operator_due outer None (whole h d)

-- a closing parenthesis
abbrev pub close : List Hand → ℕ → Hand → Dep (List ℕ) → Result Point DepFault
close [] n h d = Err BadOperator
close (o ∷ outer) n h d = Ok (record { outer = outer; operators = n; due = closed h o d })

-- an operator, where the rule in hand goes on with it; its own causes come before the limit of 64
abbrev pub go_on : List Hand → ℕ → Operator → Option Hand → Result Point DepFault
go_on outer n o None = Err (refused_operator o)
go_on outer n o (Some h) = if nat_le 64 n then Err TooDeep else Ok (record { outer = outer; operators = n + 1; due = operand_due h })

-- a word where an operand is due
abbrev pub at_operand : List Hand → ℕ → Hand → List ℕ → Result Point DepFault
at_operand outer n h w =
    if opens w then (if nat_le 64 (length outer) then Err TooDeep else Ok (record { outer = h ∷ outer; operators = n; due = operand_due nothing }))
    else (if is_plain w then Ok (record { outer = outer; operators = n; due = operator_due h (if is_namespace w then None else Some w) (named w) })
    else Err MissingOperand)

-- a word where an EVR is due
abbrev pub at_evr : List Hand → ℕ → Hand → List ℕ → Cmp → List ℕ → Result Point DepFault
at_evr outer n h name c w =
    if is_plain w then Ok (record { outer = outer; operators = n; due = operator_due h None (one (versioned name c w)) })
    else Err MissingOperand

-- a word after an operand that is no operator and no comparison
abbrev pub at_other : List Hand → ℕ → Hand → Dep (List ℕ) → List ℕ → Result Point DepFault
at_other outer n h d w = if closes w then close outer n h d else Err BadOperator

-- a comparison, where it follows a bare name
abbrev pub comparison_due : Option Cmp → Option (List ℕ) → Option (List ℕ × Cmp)
comparison_due (Some c) (Some name) = Some (name, c)
comparison_due c name = None

-- a word after an operand
abbrev pub at_operator : List Hand → ℕ → Hand → Dep (List ℕ) → List ℕ → Option (List ℕ × Cmp) → Option Operator → Result Point DepFault
at_operator outer n h d w (Some x) o = Ok (record { outer = outer; operators = n; due = evr_due h x.0 x.1 })
at_operator outer n h d w None (Some o) = go_on outer n o (goes_on outer h d o)
at_operator outer n h d w None None = at_other outer n h d w

-- the next word
abbrev pub step_due : List Hand → ℕ → Due → List ℕ → Result Point DepFault
step_due outer n (operand_due h) w = at_operand outer n h w
step_due outer n (evr_due h name c) w = at_evr outer n h name c w
step_due outer n (operator_due h name d) w = at_operator outer n h d w (comparison_due (comparison w) name) (operator w)

abbrev pub step : Point → List ℕ → Result Point DepFault
step p w = step_due p.outer p.operators p.due w

-- the end of the text
abbrev pub end_due : List Hand → Due → Result (Dep (List ℕ)) DepFault
end_due outer (operand_due h) = Err MissingOperand
end_due outer (evr_due h name c) = Err MissingOperand
end_due [] (operator_due h name d) = Ok (whole h d)
end_due (o ∷ outer) (operator_due h name d) = Err UnclosedParenthesis

-- what the words after a point give
abbrev pub reading_from : Point → List (List ℕ) → Result (Dep (List ℕ)) DepFault
reading_from p [] = end_due p.outer p.due
reading_from p (w ∷ ws) = and_then (step p w) (λ q. reading_from q ws)

-- the beginning of a text
abbrev pub beginning : Point
beginning = record { outer = []; operators = 0; due = operand_due nothing }

-- what the words of a text give
abbrev pub reading_by_rules : List (List ℕ) → Result (Dep (List ℕ)) DepFault
reading_by_rules ws = reading_from beginning ws
