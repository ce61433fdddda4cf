-- Operators as the code has them, and where words that are no names begin.
use Rattle.std.specs.Prelude.{ℕ, ◌==◌, Bool, false, ◌||◌, List, [], ◌∷◌, Option, Some, None, codes, if◌then◌else◌}
use Rattle.std.specs.Option.{option_or}
use Rattle.std.specs.Str.{bytes_eq}
use Rattle.solv_base.specs.Dependency.{without}
use Rattle.solv_deps.specs.Grammar.{joins, conditions, otherwise, spellings}
use Rattle.solv_deps.specs.Expressions.{Spelling, spelled, connective_of, condition_of}
use Rattle.solv_deps.specs.declared.sign.Joint.TheVariants.{Both, Either, Jointly}
use Rattle.solv_deps.specs.declared.sign.Conditional.TheVariants.{If, Unless}
use Rattle.solv_deps.specs.declared.sign.Operator.{Operator}
use Rattle.solv_deps.specs.declared.sign.Operator.TheVariants.{Link, Minus, Condition, Else}

-- the operator that one of the code's is
abbrev pub seen : Operator → Rattle.solv_deps.specs.Grammar.Operator
seen (Link j) = joins (connective_of j)
seen Minus = joins without
seen (Condition k) = conditions (condition_of k)
seen Else = otherwise

-- its sign
abbrev pub sign : Operator → List ℕ
sign o = (spellings (seen o)).0

-- rpm's word for it
abbrev pub rpm_word : Operator → List ℕ
rpm_word o = (spellings (seen o)).1

-- how it is spelled
abbrev pub written_by : Spelling → Operator → List ℕ
written_by s o = spelled s (seen o)

-- is the word this text?
abbrev pub word_is : List ℕ → List ℕ → Bool
word_is text word = bytes_eq text word

-- an opening parenthesis
abbrev pub opens : List ℕ → Bool
opens w = word_is (codes "(") w

-- a closing parenthesis
abbrev pub closes : List ℕ → Bool
closes w = word_is (codes ")") w

-- the operator that is spelled so
abbrev pub operator_spelled : (Operator → List ℕ) → List ℕ → Option Operator
operator_spelled text w =
    if word_is (text (Link Both)) w then Some (Link Both)
    else (if word_is (text (Link Either)) w then Some (Link Either)
    else (if word_is (text (Link Jointly)) w then Some (Link Jointly)
    else (if word_is (text Minus) w then Some Minus
    else (if word_is (text (Condition If)) w then Some (Condition If)
    else (if word_is (text (Condition Unless)) w then Some (Condition Unless)
    else (if word_is (text Else) w then Some Else
    else None))))))

-- the operator that a word is, in either spelling
abbrev pub operator : List ℕ → Option Operator
operator w = option_or (operator_spelled sign w) (operator_spelled rpm_word w)

-- the first byte is one of `()&|+-<=>`
abbrev pub begins_as_sign : List ℕ → Bool
begins_as_sign [] = false
begins_as_sign (c ∷ cs) = c == 40 || (c == 41 || (c == 38 || (c == 124 || (c == 43 || (c == 45 || (c == 60 || (c == 61 || c == 62)))))))
