-- A reader's state as a point of the reading, over the draft that its numbers are of.
use Rattle.std.specs.Prelude.{option_map, ℕ, ◌+◌, ◌≡◌, ◌<◌, ◌≤◌, Bool, true, ◌&&◌, List, [], ◌∷◌, map, length, nat_lt, Option, Some, None, Result, Ok}
use Rattle.std.specs.List.{list_all}
use Rattle.solv_base.specs.Dependency.{Dep, one, plain}
use Rattle.solv_deps.specs.declared.fault.DepFault.{DepFault}
use Rattle.solv_deps.specs.declared.draft.Written.{Written}
use Rattle.solv_deps.specs.declared.outer.Rule.{Rule}
use Rattle.solv_deps.specs.declared.outer.Rule.TheVariants.{Nothing, Chain, Difference, Condition, Else, InnerElse}
use Rattle.solv_deps.specs.declared.reading.Due.{Due}
use Rattle.solv_deps.specs.declared.reading.Due.TheVariants.{Operand, Evr, Named, Operator}
use Rattle.solv_deps.specs.Inner.Drafts.{said}
use Rattle.solv_deps.specs.Inner.Reading.{Hand, nothing, in_chain, in_difference, in_condition, in_else, in_inner_else, operand_due, evr_due, operator_due, Point}

-- a rule in hand over the dependencies of its numbers
abbrev pub rule_hand : (ℕ → Dep (List ℕ)) → Rule → Hand
rule_hand at Nothing = nothing
rule_hand at (Chain j a) = in_chain j (at a)
rule_hand at (Difference a) = in_difference (at a)
rule_hand at (Condition k a) = in_condition k (at a)
rule_hand at (Else k a b) = in_else k (at a) (at b)
rule_hand at (InnerElse k a b) = in_inner_else k (at a) (at b)

-- the rules that open parentheses interrupt
abbrev pub hands : (ℕ → Dep (List ℕ)) → List Rule → List Hand
hands at rules = map (rule_hand at) rules

-- what is due
abbrev pub due_seen : (ℕ → Dep (List ℕ)) → Due → Rattle.solv_deps.specs.Inner.Reading.Due
due_seen at (Operand r) = operand_due (rule_hand at r)
due_seen at (Evr r name c) = evr_due (rule_hand at r) name.now c
due_seen at (Named r name) = operator_due (rule_hand at r) (Some name.now) (one (plain name.now))
due_seen at (Operator r id) = operator_due (rule_hand at r) None (at id)

-- are its numbers below this one?
abbrev pub rule_in : ℕ → Rule → Bool
rule_in n Nothing = true
rule_in n (Chain j a) = nat_lt a n
rule_in n (Difference a) = nat_lt a n
rule_in n (Condition k a) = nat_lt a n
rule_in n (Else k a b) = nat_lt a n && nat_lt b n
rule_in n (InnerElse k a b) = nat_lt a n && nat_lt b n

-- the same of a rule, if there is one
abbrev pub option_in : ℕ → Option Rule → Bool
option_in n None = true
option_in n (Some r) = rule_in n r

-- the same of each rule
abbrev pub rules_in : ℕ → List Rule → Bool
rules_in n rules = list_all (rule_in n) rules

-- the same of what is due
abbrev pub due_in : ℕ → Due → Bool
due_in n (Operand r) = rule_in n r
due_in n (Evr r name c) = rule_in n r
due_in n (Named r name) = rule_in n r
due_in n (Operator r id) = rule_in n r && nat_lt id n

-- how many parts a rule still has to give: one, where an operator stands before the operand in hand
abbrev pub pending : Rule → ℕ
pending Nothing = 0
pending (Chain j a) = 1
pending (Difference a) = 1
pending (Condition k a) = 1
pending (Else k a b) = 1
pending (InnerElse k a b) = 1

-- the same of a rule, if there is one
abbrev pub option_pending : Option Rule → ℕ
option_pending None = 0
option_pending (Some r) = pending r

-- the same of all rules
abbrev pub rules_pending : List Rule → ℕ
rules_pending [] = 0
rules_pending (r ∷ rules) = pending r + rules_pending rules

-- the same of the rule in hand
abbrev pub due_pending : Due → ℕ
due_pending (Operand r) = pending r
due_pending (Evr r name c) = pending r
due_pending (Named r name) = pending r
due_pending (Operator r id) = pending r

-- how many operands are in the draft before the next operator
abbrev pub due_entered : Due → ℕ
due_entered (Operand r) = 0
due_entered (Evr r name c) = 0
due_entered (Named r name) = 0
due_entered (Operator r id) = 1

-- the point of the reading that a reader stands at
unfoldable pub seen : List Written → List Rule → ℕ → Due → Point
seen draft outer count due = record { outer = hands (said draft) outer; operators = count; due = due_seen (said draft) due }

-- its numbers are of the draft, and what is pending has room in it
pub record Belongs (draft : List Written) (rules : List Rule) (count : ℕ) (next : Due) : Type 0 where
  pub outer : rules_in (length draft) rules ≡ true
  pub due : due_in (length draft) next ≡ true
  pub room : length draft + rules_pending rules + due_pending next ≤ count + count + due_entered next
  pub few : count ≤ 64

-- the rule in hand now is this one, if any
pub record GoesOn (draft : List Written) (rule : Option Rule) (hand : Option Hand) : Type 0 where
  pub is : hand ≡ option_map (rule_hand (said draft)) rule
  pub inside : option_in (length draft) rule ≡ true

-- the reader stands at the point that the reading gives
pub record Stands (draft : List Written) (rules : List Rule) (count : ℕ) (next : Due) (answer : Result Point DepFault) : Type 0 where
  pub point : answer ≡ Ok (seen draft rules count next)
  pub belongs : Belongs draft rules count next

-- this is due next
pub record Leads (draft : List Written) (next : Due) (due : Rattle.solv_deps.specs.Inner.Reading.Due) : Type 0 where
  pub is : due ≡ due_seen (said draft) next
  pub inside : due_in (length draft) next ≡ true

-- the whole dependency is under this number
pub record Ends (draft : List Written) (id : ℕ) (answer : Result (Dep (List ℕ)) DepFault) : Type 0 where
  pub is : answer ≡ Ok (said draft id)
  pub below : id < length draft
