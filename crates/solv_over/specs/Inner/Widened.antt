-- Clauses beside others, each of which says of a package that is left out that it is out.
use Rattle.std.specs.Prelude.{ℕ, ℤ, pos, negsuc, suc, ◌≡◌, Bool, true, false, not, ◌&&◌, List, ◌⊎◌, Option, Some}
use Rattle.std.specs.List.{list_any, list_all}
use Rattle.solv_pool.specs.Propagation.{is_fact, unit, clashes}
use Rattle.solv_pool.specs.Range.{are_over}
use Rattle.solv_trail.specs.Inner.Derivation.{Among}
use Rattle.solv_trail.specs.Walk.{walk, met_by_choices}

-- the literal says of a package that is left out that it is in
abbrev pub says_in : (ℕ → Bool) → ℤ → Bool
says_in left (pos p) = left p
says_in left (negsuc k) = false

-- that it is out
abbrev pub says_out : (ℕ → Bool) → ℤ → Bool
says_out left (pos p) = false
says_out left (negsuc k) = left (suc k)

-- neither
abbrev pub says_neither : (ℕ → Bool) → ℤ → Bool
says_neither left l = not (says_in left l) && not (says_out left l)

-- each of the second clauses says of something left out that it is out, or is one of the first and says nothing of what is left out; the first are of the second
pub record AreBeside (left : ℕ → Bool) (made all : List (List ℤ)) : Type 0 where
  pub wider : (c : List ℤ) → Among c made → Among c all
  pub each : (c : List ℤ) → Among c all → (list_any (says_out left) c ≡ true) ⊎ (Among c made × (list_all (says_neither left) c ≡ true))

-- nothing that is left out is known in
pub record AreInside (left : ℕ → Bool) (facts : List ℤ) : Type 0 where
  pub none : (l : ℤ) → is_fact facts l ≡ true → says_in left l ≡ false

-- all that is known first is known then, and else at most that something is out which is left out
pub record AreWidened (left : ℕ → Bool) (facts more : List ℤ) : Type 0 where
  pub keeps : (l : ℤ) → is_fact facts l ≡ true → is_fact more l ≡ true
  pub adds : (l : ℤ) → is_fact more l ≡ true → (is_fact facts l ≡ true) ⊎ (says_out left l ≡ true)
  pub inside : AreInside left facts

-- what unit propagation from these facts gives over both
pub record IsWidened (count : ℕ) (left : ℕ → Bool) (made all : List (List ℤ)) (facts : List ℤ) : Type 0 where
  pub clash : clashes all (unit count all facts) ≡ clashes made (unit count made facts)
  pub known : clashes made (unit count made facts) ≡ false → AreWidened left (unit count made facts) (unit count all facts)

-- from facts that hold nothing in that is left out
abbrev pub PropagationWidens : Type 0
PropagationWidens = (count : ℕ) (left : ℕ → Bool) (made all : List (List ℤ)) → AreBeside left made all → are_over count all ≡ true
    → (facts : List ℤ) → AreInside left facts → IsWidened count left made all facts

-- two guides ask for the same, the second where more is known so; what is asked for is not left out
pub record AskAlike (left : ℕ → Bool) (some all : (ℤ → Bool) → Option ℕ) : Type 0 where
  pub same : (facts more : List ℤ) → AreWidened left facts more → all (is_fact more) ≡ some (is_fact facts)
  pub inside : (facts : List ℤ) → AreInside left facts → (p : ℕ) → some (is_fact facts) ≡ Some p → left p ≡ false

-- the choices of both, and whether they meet a conflict before which a clause asserts its first literal
pub record ChooseAlike (count : ℕ) (left : ℕ → Bool) (made all : List (List ℤ)) (asks asks_all : (ℤ → Bool) → Option ℕ) : Type 0 where
  pub choices : walk count all asks_all ≡ walk count made asks
  pub met : (learnt : List ℤ) → list_all (says_neither left) learnt ≡ true → met_by_choices count all asks_all learnt ≡ met_by_choices count made asks learnt

abbrev pub ChoicesWiden : Type 0
ChoicesWiden = (count : ℕ) (left : ℕ → Bool) (made all : List (List ℤ)) (asks asks_all : (ℤ → Bool) → Option ℕ)
    → AreBeside left made all → are_over count all ≡ true → AskAlike left asks asks_all → ChooseAlike count left made all asks asks_all
