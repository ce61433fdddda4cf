-- The reading by rules in hand is the reading.
use Rattle.std.proofs.Common.{◌≡◌, ℕ, ◌+◌, Bool, true, false, List, [], ◌∷◌, length, Option, Some, None, Result, Ok, Err, refl, ap, ◌∙◌, arith, nat_le, nat_lt}
use Rattle.std.specs.Prelude.{if◌then◌else◌, is_none, codes}
use Rattle.std.specs.Option.{option_map, option_or, option_and_then}
use Rattle.std.specs.Str.{bytes_eq}
use Rattle.std.proofs.lemmas.Bool.Decides.{nat_tests}
use Rattle.solv_base.specs.declared.comparison.Cmp.{Cmp}
use Rattle.solv_base.specs.Dependency.{Dep, without}
use Rattle.solv_deps.specs.declared.fault.DepFault.{DepFault}
use Rattle.solv_deps.specs.declared.fault.DepFault.TheVariants.{BadOperator, MissingOperand, UnclosedParenthesis, TooDeep}
use Rattle.solv_deps.specs.declared.sign.Joint.TheVariants.{Both, Either, Jointly}
use Rattle.solv_deps.specs.declared.sign.Conditional.TheVariants.{If, Unless}
use Rattle.solv_deps.specs.declared.sign.Operator.TheVariants.{Link, Minus, Condition, Else}
use Rattle.solv_deps.specs.declared.sign.Operator as code
use Rattle.solv_deps.specs.Expressions.{connective_of, condition_of}
use Rattle.solv_deps.specs.Grammar.{Operator, spellings, operator, operator_spelled, comparison, is_plain}
use Rattle.solv_deps.specs.Reading.{Hand, nothing, alone, in_joined, in_condition, in_else, Due, operand_due, evr_due, operator_due, Point, whole, and_then, goes_on, at_operator, close, step, ended, reading_from, reading}
use Rattle.solv_deps.specs.Inner.Signs.{seen}
use Rattle.solv_deps.specs.Inner.Signs as signs
use Rattle.solv_deps.specs.Inner.Reading as rules

-- the code's operator of a spelling
spelled_seen : (spelling : Operator → List ℕ) (w : List ℕ) → operator_spelled spelling w ≡ option_map seen (signs.operator_spelled (λ o. spelling (seen o)) w)
spelled_seen spelling w =
    by (text (Link Both)) (text (Link Either)) (text (Link Jointly)) (text Minus) (text (Condition If)) (text (Condition Unless)) (text Else)
  where
    text : code.Operator → Bool
    text o = bytes_eq (spelling (seen o)) w

    by : (a b c d e f g : Bool)
        → (if a then Some (seen (Link Both)) else (if b then Some (seen (Link Either)) else (if c then Some (seen (Link Jointly)) else (if d then Some (seen Minus) else (if e then Some (seen (Condition If)) else (if f then Some (seen (Condition Unless)) else (if g then Some (seen Else) else None)))))))
        ≡ option_map seen (if a then Some (Link Both) else (if b then Some (Link Either) else (if c then Some (Link Jointly) else (if d then Some Minus else (if e then Some (Condition If) else (if f then Some (Condition Unless) else (if g then Some Else else None)))))))
    by true b c d e f g = refl
    by false true c d e f g = refl
    by false false true d e f g = refl
    by false false false true e f g = refl
    by false false false false true f g = refl
    by false false false false false true g = refl
    by false false false false false false true = refl
    by false false false false false false false = refl

-- a word that is no operator's sign is none of the code's
pub unsigned_seen : (w : List ℕ) → is_none (operator_spelled (λ o. (spellings o).0) w) ≡ is_none (signs.operator_spelled signs.sign w)
unsigned_seen w = ap is_none (spelled_seen (λ o. (spellings o).0) w) ∙ none (signs.operator_spelled signs.sign w)
  where
    none : (o : Option code.Operator) → is_none (option_map seen o) ≡ is_none o
    none (Some o) = refl
    none None = refl

operator_seen : (w : List ℕ) → operator w ≡ option_map seen (signs.operator w)
operator_seen w =
    both _ _ _ _ (spelled_seen (λ o. (spellings o).0) w) (spelled_seen (λ o. (spellings o).1) w)
    ∙ either (signs.operator_spelled signs.sign w) (signs.operator_spelled signs.rpm_word w)
  where
    both : (a b c d : Option Operator) → a ≡ b → c ≡ d → option_or a c ≡ option_or b d
    both a b c d e f = cc

    either : (a b : Option code.Operator) → option_or (option_map seen a) (option_map seen b) ≡ option_map seen (option_or a b)
    either (Some a) b = refl
    either None b = refl

-- what stands before an operand by a rule in hand
abbrev hand_seen : rules.Hand → Hand
hand_seen rules.nothing = nothing
hand_seen (rules.in_chain j a) = in_joined (connective_of j) a
hand_seen (rules.in_difference a) = in_joined without a
hand_seen (rules.in_condition k a) = in_condition (condition_of k) a
hand_seen (rules.in_else k a b) = in_else (condition_of k) a b
hand_seen (rules.in_inner_else k a b) = in_else (condition_of k) a b

-- and by those outside of it: where `B <ELSE>` stands in parentheses, `A <IF> B <ELSE>` stands before them
abbrev hands_seen : List rules.Hand → List Hand
hands_seen [] = []
hands_seen (rules.in_inner_else k a b ∷ o ∷ outer) = alone ∷ in_else (condition_of k) a b ∷ hands_seen outer
hands_seen (h ∷ outer) = hand_seen h ∷ hands_seen outer

abbrev hand_of : rules.Due → rules.Hand
hand_of (rules.operand_due h) = h
hand_of (rules.evr_due h name c) = h
hand_of (rules.operator_due h name d) = h

abbrev due_seen : rules.Due → Due
due_seen (rules.operand_due h) = operand_due
due_seen (rules.evr_due h name c) = evr_due name c
due_seen (rules.operator_due h name d) = operator_due name d

abbrev seen_at : List rules.Hand → ℕ → rules.Due → Point
seen_at outer n due = record { hands = hands_seen (hand_of due ∷ outer); operators = n; due = due_seen due }

abbrev point_seen : rules.Point → Point
point_seen p = seen_at p.outer p.operators p.due

abbrev answer : Result rules.Point DepFault → Result Point DepFault
answer (Ok p) = Ok (point_seen p)
answer (Err e) = Err e

as_many : (hs : List rules.Hand) → length (hands_seen hs) ≡ length hs
as_many [] = refl
as_many (rules.in_inner_else k a b ∷ []) = refl
as_many (rules.in_inner_else k a b ∷ o ∷ outer) = let e = as_many outer in omega arith
as_many (rules.nothing ∷ outer) = let e = as_many outer in omega arith
as_many (rules.in_chain j a ∷ outer) = let e = as_many outer in omega arith
as_many (rules.in_difference a ∷ outer) = let e = as_many outer in omega arith
as_many (rules.in_condition k a ∷ outer) = let e = as_many outer in omega arith
as_many (rules.in_else k a b ∷ outer) = let e = as_many outer in omega arith

is_full : (h : rules.Hand) (outer : List rules.Hand) → nat_lt 64 (length (hands_seen (h ∷ outer))) ≡ nat_le 64 (length outer)
is_full h outer = ap (nat_lt 64) (as_many (h ∷ outer)) ∙ one_less outer
  where
    one_less : (xs : List rules.Hand) → nat_lt 64 (length (h ∷ xs)) ≡ nat_le 64 (length xs)
    one_less xs =
        elim (nat_le 64 (length xs)) as (λ b. nat_le 64 (length xs) ≡ b → nat_lt 64 (length (h ∷ xs)) ≡ b) [
          | true ↦ λ e. grind (arith, nat_tests)
          | false ↦ λ e. grind (arith, nat_tests)
        ] refl

chosen : (b : Bool) (x y : Result rules.Point DepFault) (v w : Result Point DepFault) → v ≡ answer x → w ≡ answer y → (if b then v else w) ≡ answer (if b then x else y)
chosen true x y v w e f = e
chosen false x y v w e f = f

step_operand : (outer : List rules.Hand) (n : ℕ) (h : rules.Hand) (w : List ℕ) → step (seen_at outer n (rules.operand_due h)) operand_due w ≡ answer (rules.at_operand outer n h w)
step_operand outer n h w =
    chosen (bytes_eq (codes "(") w) _ _ _ _
    (ap (λ (b : Bool). if b then Err TooDeep else Ok (record { hands = nothing ∷ hands_seen (h ∷ outer); operators = n; due = operand_due })) (is_full h outer)
    ∙ chosen (nat_le 64 (length outer)) (Err TooDeep) _ _ _ refl refl)
    (chosen (is_plain w) _ (Err MissingOperand) _ _ refl refl)

-- an operator
abbrev gone : List rules.Hand → code.Operator → Option rules.Hand → Result (List Hand) DepFault
gone outer o (Some k) = Ok (hands_seen (k ∷ outer))
gone outer o None = Err (rules.refused_operator o)

goes_seen : (outer : List rules.Hand) (h : rules.Hand) (d : Dep (List ℕ)) (o : code.Operator) → goes_on (hands_seen (h ∷ outer)) d (seen o) ≡ gone outer o (rules.goes_on outer h d o)
goes_seen outer rules.nothing d (Link j) = refl
goes_seen outer rules.nothing d Minus = refl
goes_seen outer rules.nothing d (Condition k) = refl
goes_seen [] rules.nothing d Else = refl
goes_seen (rules.nothing ∷ outer) rules.nothing d Else = refl
goes_seen (rules.in_chain j a ∷ outer) rules.nothing d Else = refl
goes_seen (rules.in_difference a ∷ outer) rules.nothing d Else = refl
goes_seen (rules.in_condition k a ∷ outer) rules.nothing d Else = refl
goes_seen (rules.in_else k a b ∷ outer) rules.nothing d Else = refl
goes_seen (rules.in_inner_else k a b ∷ []) rules.nothing d Else = refl
goes_seen (rules.in_inner_else k a b ∷ o ∷ outer) rules.nothing d Else = refl
goes_seen outer (rules.in_chain Both a) d (Link Both) = refl
goes_seen outer (rules.in_chain Both a) d (Link Either) = refl
goes_seen outer (rules.in_chain Both a) d (Link Jointly) = refl
goes_seen outer (rules.in_chain Either a) d (Link Both) = refl
goes_seen outer (rules.in_chain Either a) d (Link Either) = refl
goes_seen outer (rules.in_chain Either a) d (Link Jointly) = refl
goes_seen outer (rules.in_chain Jointly a) d (Link Both) = refl
goes_seen outer (rules.in_chain Jointly a) d (Link Either) = refl
goes_seen outer (rules.in_chain Jointly a) d (Link Jointly) = refl
goes_seen outer (rules.in_chain i a) d Minus = refl
goes_seen outer (rules.in_chain i a) d (Condition k) = refl
goes_seen outer (rules.in_chain i a) d Else = refl
goes_seen outer (rules.in_difference a) d (Link Both) = refl
goes_seen outer (rules.in_difference a) d (Link Either) = refl
goes_seen outer (rules.in_difference a) d (Link Jointly) = refl
goes_seen outer (rules.in_difference a) d Minus = refl
goes_seen outer (rules.in_difference a) d (Condition k) = refl
goes_seen outer (rules.in_difference a) d Else = refl
goes_seen outer (rules.in_condition c a) d (Link j) = refl
goes_seen outer (rules.in_condition c a) d Minus = refl
goes_seen outer (rules.in_condition c a) d (Condition k) = refl
goes_seen outer (rules.in_condition c a) d Else = refl
goes_seen outer (rules.in_else c a b) d (Link j) = refl
goes_seen outer (rules.in_else c a b) d Minus = refl
goes_seen outer (rules.in_else c a b) d (Condition k) = refl
goes_seen outer (rules.in_else c a b) d Else = refl
goes_seen [] (rules.in_inner_else c a b) d (Link j) = refl
goes_seen [] (rules.in_inner_else c a b) d Minus = refl
goes_seen [] (rules.in_inner_else c a b) d (Condition k) = refl
goes_seen [] (rules.in_inner_else c a b) d Else = refl
goes_seen (o ∷ outer) (rules.in_inner_else c a b) d (Link j) = refl
goes_seen (o ∷ outer) (rules.in_inner_else c a b) d Minus = refl
goes_seen (o ∷ outer) (rules.in_inner_else c a b) d (Condition k) = refl
goes_seen (o ∷ outer) (rules.in_inner_else c a b) d Else = refl

operator_step : (outer : List rules.Hand) (n : ℕ) (h : rules.Hand) (name : Option (List ℕ)) (d : Dep (List ℕ)) (o : code.Operator)
    → at_operator (seen_at outer n (rules.operator_due h name d)) d (seen o) ≡ answer (rules.go_on outer n o (rules.goes_on outer h d o))
operator_step outer n h name d o = ap (λ r. and_then r counted) (goes_seen outer h d o) ∙ went (rules.goes_on outer h d o)
  where
    counted : List Hand → Result Point DepFault
    counted hands = if nat_le 64 n then Err TooDeep else Ok (record { hands = hands; operators = n + 1; due = operand_due })

    went : (k : Option rules.Hand) → and_then (gone outer o k) counted ≡ answer (rules.go_on outer n o k)
    went None = refl
    went (Some k) = chosen (nat_le 64 n) (Err TooDeep) _ _ _ refl refl

-- a closing parenthesis
closes_round : (n : ℕ) (due : Due) (x : Hand) (o : rules.Hand) (outer : List rules.Hand) (d : Dep (List ℕ))
    → close (record { hands = x ∷ hands_seen (o ∷ outer); operators = n; due = due }) (x ∷ hands_seen (o ∷ outer)) d
    ≡ Ok (record { hands = hands_seen (o ∷ outer); operators = n; due = operator_due None (whole x d) })
closes_round n due x rules.nothing outer d = refl
closes_round n due x (rules.in_chain j a) outer d = refl
closes_round n due x (rules.in_difference a) outer d = refl
closes_round n due x (rules.in_condition k a) outer d = refl
closes_round n due x (rules.in_else k a b) outer d = refl
closes_round n due x (rules.in_inner_else k a b) [] d = refl
closes_round n due x (rules.in_inner_else k a b) (o ∷ outer) d = refl

close_step : (outer : List rules.Hand) (n : ℕ) (h : rules.Hand) (name : Option (List ℕ)) (d : Dep (List ℕ))
    → close (seen_at outer n (rules.operator_due h name d)) (hands_seen (h ∷ outer)) d ≡ answer (rules.close outer n h d)
close_step [] n rules.nothing name d = refl
close_step [] n (rules.in_chain j a) name d = refl
close_step [] n (rules.in_difference a) name d = refl
close_step [] n (rules.in_condition k a) name d = refl
close_step [] n (rules.in_else k a b) name d = refl
close_step [] n (rules.in_inner_else k a b) name d = refl
close_step (o ∷ outer) n rules.nothing name d = closes_round n (operator_due name d) nothing o outer d
close_step (o ∷ outer) n (rules.in_chain j a) name d = closes_round n (operator_due name d) (in_joined (connective_of j) a) o outer d
close_step (o ∷ outer) n (rules.in_difference a) name d = closes_round n (operator_due name d) (in_joined without a) o outer d
close_step (o ∷ outer) n (rules.in_condition k a) name d = closes_round n (operator_due name d) (in_condition (condition_of k) a) o outer d
close_step (o ∷ outer) n (rules.in_else k a b) name d = closes_round n (operator_due name d) (in_else (condition_of k) a b) o outer d
close_step (o ∷ outer) n (rules.in_inner_else k a b) name d = refl

step_operator : (outer : List rules.Hand) (n : ℕ) (h : rules.Hand) (name : Option (List ℕ)) (d : Dep (List ℕ)) (w : List ℕ)
    → step (seen_at outer n (rules.operator_due h name d)) (operator_due name d) w ≡ answer (rules.at_operator outer n h d w (rules.comparison_due (comparison w) name) (signs.operator w))
step_operator outer n h name d w = ap stepped (operator_seen w) ∙ cases (comparison w) name (signs.operator w)
  where
    stepped_by : Option Cmp → Option (List ℕ) → Option Operator → Result Point DepFault
    stepped_by c name o = elim (option_and_then (λ n. option_map (evr_due n) c) name) [
      | Some due ↦ Ok (record { hands = hands_seen (h ∷ outer); operators = n; due = due })
      | None ↦ elim o [
        | Some o ↦ at_operator (seen_at outer n (rules.operator_due h name d)) d o
        | None ↦ if bytes_eq (codes ")") w then close (seen_at outer n (rules.operator_due h name d)) (hands_seen (h ∷ outer)) d else Err BadOperator
      ]
    ]

    stepped : Option Operator → Result Point DepFault
    stepped o = stepped_by (comparison w) name o

    cases : (c : Option Cmp) (name : Option (List ℕ)) (o : Option code.Operator)
        → stepped_by c name (option_map seen o) ≡ answer (rules.at_operator outer n h d w (rules.comparison_due c name) o)
    cases (Some c) (Some x) o = refl
    cases (Some c) None (Some o) = operator_step outer n h None d o
    cases None (Some x) (Some o) = operator_step outer n h (Some x) d o
    cases None None (Some o) = operator_step outer n h None d o
    cases (Some c) None None = chosen (bytes_eq (codes ")") w) _ _ _ _ (close_step outer n h None d) refl
    cases None (Some x) None = chosen (bytes_eq (codes ")") w) _ _ _ _ (close_step outer n h (Some x) d) refl
    cases None None None = chosen (bytes_eq (codes ")") w) _ _ _ _ (close_step outer n h None d) refl

step_seen : (outer : List rules.Hand) (n : ℕ) (due : rules.Due) (w : List ℕ) → step (seen_at outer n due) (due_seen due) w ≡ answer (rules.step_due outer n due w)
step_seen outer n (rules.operand_due h) w = step_operand outer n h w
step_seen outer n (rules.evr_due h name c) w = chosen (is_plain w) _ (Err MissingOperand) _ _ refl refl
step_seen outer n (rules.operator_due h name d) w = step_operator outer n h name d w

-- the end of the text
ended_inside : (x : Hand) (o : rules.Hand) (outer : List rules.Hand) (name : Option (List ℕ)) (d : Dep (List ℕ)) → ended (operator_due name d) (x ∷ hands_seen (o ∷ outer)) ≡ Err UnclosedParenthesis
ended_inside x rules.nothing outer name d = refl
ended_inside x (rules.in_chain j a) outer name d = refl
ended_inside x (rules.in_difference a) outer name d = refl
ended_inside x (rules.in_condition k a) outer name d = refl
ended_inside x (rules.in_else k a b) outer name d = refl
ended_inside x (rules.in_inner_else k a b) [] name d = refl
ended_inside x (rules.in_inner_else k a b) (o ∷ outer) name d = refl

ended_seen : (outer : List rules.Hand) (due : rules.Due) → ended (due_seen due) (hands_seen (hand_of due ∷ outer)) ≡ rules.end_due outer due
ended_seen outer (rules.operand_due h) = refl
ended_seen outer (rules.evr_due h name c) = refl
ended_seen [] (rules.operator_due rules.nothing name d) = refl
ended_seen [] (rules.operator_due (rules.in_chain j a) name d) = refl
ended_seen [] (rules.operator_due (rules.in_difference a) name d) = refl
ended_seen [] (rules.operator_due (rules.in_condition k a) name d) = refl
ended_seen [] (rules.operator_due (rules.in_else k a b) name d) = refl
ended_seen [] (rules.operator_due (rules.in_inner_else k a b) name d) = refl
ended_seen (o ∷ outer) (rules.operator_due rules.nothing name d) = ended_inside nothing o outer name d
ended_seen (o ∷ outer) (rules.operator_due (rules.in_chain j a) name d) = ended_inside (in_joined (connective_of j) a) o outer name d
ended_seen (o ∷ outer) (rules.operator_due (rules.in_difference a) name d) = ended_inside (in_joined without a) o outer name d
ended_seen (o ∷ outer) (rules.operator_due (rules.in_condition k a) name d) = ended_inside (in_condition (condition_of k) a) o outer name d
ended_seen (o ∷ outer) (rules.operator_due (rules.in_else k a b) name d) = ended_inside (in_else (condition_of k) a b) o outer name d
ended_seen (o ∷ outer) (rules.operator_due (rules.in_inner_else k a b) name d) = refl

same_from : (p : rules.Point) (ws : List (List ℕ)) → reading_from (point_seen p) ws ≡ rules.reading_from p ws
same_from p [] = ended_seen p.outer p.due
same_from p (w ∷ ws) =
    ap (λ r. and_then r (λ q. reading_from q ws)) (step_seen p.outer p.operators p.due w)
    ∙ next (rules.step p w) (λ q. same_from q ws)
  where
    next : (r : Result rules.Point DepFault) → ((q : rules.Point) → reading_from (point_seen q) ws ≡ rules.reading_from q ws)
        → and_then (answer r) (λ q. reading_from q ws) ≡ and_then r (λ q. rules.reading_from q ws)
    next (Ok q) same = same q
    next (Err e) same = refl

-- what words give, by the rules in hand
pub same_reading : (ws : List (List ℕ)) → reading ws ≡ rules.reading_by_rules ws
same_reading ws = same_from rules.beginning ws
