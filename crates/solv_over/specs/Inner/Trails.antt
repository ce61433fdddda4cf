-- Good trails over all clauses, from those over the clauses that are made.
use Rattle.std.specs.Prelude.{ℕ, ℤ, ◌≡◌, Bool, true, false, not, List, filter, Option, Some}
use Rattle.solv_pool.specs.Propagation.{is_fact}
use Rattle.solv_pool.specs.Range.{are_over}
use Rattle.solv_trail.specs.declared.questions.Ask.{Ask}
use Rattle.solv_core.specs.GoodTrails.{literal_of, facts_of, IsGoodTrail}
use Rattle.solv_core.specs.declared.verdicts.Event.{Event}
use Rattle.solv_over.specs.Inner.Widened.{says_out, AreBeside, AreInside, AreWidened}

-- the events but those that say of something left out that it is out
abbrev pub of_inside : (ℕ → Bool) → List Event → List Event
of_inside left events = filter (λ e. not (says_out left (literal_of e))) events

-- the events of all clauses beside those of the made ones: the same but for what says of something left out that it is out, and of that no less
pub record IsWider (left : ℕ → Bool) (events more : List Event) : Type 0 where
  pub same : of_inside left more ≡ of_inside left events
  pub keeps : (l : ℤ) → is_fact (facts_of events) l ≡ true → is_fact (facts_of more) l ≡ true

-- two guides ask the same, the second where more is known so; what is asked for is not left out
pub record GuideAlike (left : ℕ → Bool) (some all : (ℤ → Bool) → Option Ask) : Type 0 where
  pub same : (facts more : List ℤ) → AreWidened left facts more → all (is_fact more) ≡ some (is_fact facts)
  pub inside : (facts : List ℤ) → AreInside left facts → (a : Ask) → some (is_fact facts) ≡ Some a → left a.pack ≡ false

-- a good trail over the clauses that are made holds nothing in that is left out, and is, but for events that say of something left out that it is out, a good trail over all
abbrev pub TrailsWiden : Type 0
TrailsWiden = (count : ℕ) (left : ℕ → Bool) (made all : List (List ℤ)) (asks asks_all : (ℤ → Bool) → Option Ask)
    → AreBeside left made all → are_over count all ≡ true → GuideAlike left asks asks_all → left 0 ≡ false
    → (events : List Event) → IsGoodTrail count made asks events
    → AreInside left (facts_of events) × ((more : List Event) × (IsGoodTrail count all asks_all more × IsWider left events more))
