-- What the watches of rules keep.
use Rattle.std.specs.Prelude.{ℕ, ℤ, pos, neg_ℤ, ◌≡◌, ◌+◌, ◌*◌, ◌/◌, ◌^◌, ◌<◌, ◌≤◌, ◌⊎◌, Bool, true, false, List, length, take, slice_get, slice_index, slice_index_or, Some}
use Rattle.solv_pool.specs.Prelude.{is_fact, is_refuted}
use Rattle.solv_derive.specs.Forced.{is_falsified, forced}
use Rattle.solv_derive.specs.Inner.Forced.{is_satisfied}
use Rattle.solv_pack.specs.Inner.Literals.{place_of}
use Rattle.solv_trail.specs.Inner.Propagated.{IsUsed}
use Rattle.solv_watch.specs.Inner.Chains.{no_link, other, AreHung, AreAllHung}
use Rattle.solv_watch.specs.Inner.Spares.{AreTwoOf}
use Rattle.solv_watch.specs.declared.walking.Visit.{Visit}
use Rattle.solv_watch.specs.declared.walking.Visit.TheVariants.{Stays, Falsified, Forces, Moves}

abbrev pub literal_of : List ℤ → ℕ → ℤ
literal_of watched w = slice_index_or watched w (pos 0)

-- a watch of a rule with two literals or more
pub record IsWatch (rules : List (List ℤ)) (w : ℕ) : Type 0 where
  pub clause : List ℤ
  pub held : slice_get rules (w / 2) ≡ Some clause
  pub wide : 2 ≤ length clause

-- the two watched literals of each such rule stand at two places of it
abbrev pub ArePairs : List (List ℤ) → List ℤ → Type 0
ArePairs rules watched = (w : ℕ) (c : List ℤ) → slice_get rules (w / 2) ≡ Some c → 2 ≤ length c → AreTwoOf (literal_of watched w) (literal_of watched (other w)) c

-- where the literal of this watch is false among the first, the other is known among the second
abbrev pub IsGuard : List ℤ → List ℤ → List ℤ → ℕ → Type 0
IsGuard watched seen known w = is_refuted seen (literal_of watched w) ≡ true → is_fact known (literal_of watched (other w)) ≡ true

-- each watch in use for which the promise holds is such a guard
abbrev pub AreGuards : List (List ℤ) → (ℕ → Bool) → List ℤ → (ℕ → Type 0) → List ℤ → List ℤ → Type 0
AreGuards rules used watched holds seen known = (w : ℕ) → IsWatch rules w → used (w / 2) ≡ true → holds w → IsGuard watched seen known w

abbrev pub Each : ℕ → Type 0
Each w = Unit {0}

-- at each choice
abbrev pub AreGuardsAtChoices : List (List ℤ) → (ℕ → Bool) → List ℤ → List ℤ → List ℕ → Type 0
AreGuardsAtChoices rules used watched lits marks = (k : ℕ) → k < length marks
    → (slice_index marks k ≤ length lits) × AreGuards rules used watched Each (take (slice_index marks k) lits) (take (slice_index marks k) lits)

-- rules in use with fewer than two literals are true
abbrev pub AreNarrowTrue : List (List ℤ) → (ℕ → Bool) → List ℤ → Type 0
AreNarrowTrue rules used lits = (r : ℕ) (c : List ℤ) → IsUsed rules used r c → length c < 2 → is_satisfied lits c ≡ true

-- where a watch hangs: at its literal
abbrev pub place_at : List ℤ → ℕ → ℕ
place_at watched w = place_of (literal_of watched w)

-- the watches of all rules with two literals or more hang at their literals, over packages from 1 to count
pub record AreChained (count : ℕ) (rules : List (List ℤ)) (heads links : List ℕ) (watched : List ℤ) : Type 0 where
  pub two : length watched ≡ 2 * length rules
  pub linked : length links ≡ 2 * length rules
  pub few : length rules ≤ 2 ^ 28
  pub room : length heads ≡ 2 * count + 2
  pub pairs : ArePairs rules watched
  pub chain : ℕ → List ℕ
  pub hung : AreHung heads links (IsWatch rules) (place_at watched) chain
  pub all : AreAllHung (IsWatch rules) (place_at watched) chain

-- the first watch at the literal that is false by the one at a place, where one stands there
abbrev pub IsHeadOf : List ℤ → ℕ → List ℕ → ℕ → Type 0
IsHeadOf lits at heads first = (l : ℤ) → at < length lits → slice_index_or lits at (pos 0) ≡ neg_ℤ l → slice_index heads (place_of l) ≡ first

-- the heads of false literals are as they were, but for that of the literal that is false by the one at a place
abbrev pub AreHeadsKept : List ℤ → ℕ → List ℕ → List ℕ → Type 0
AreHeadsKept lits at old new = (l : ℤ) → is_refuted lits l ≡ true → (slice_index_or lits at (pos 0) ≡ neg_ℤ l → ⊥) → slice_index new (place_of l) ≡ slice_index old (place_of l)

-- each head that leads somewhere is that of a literal that is watched, by a watch from this one on
abbrev pub AreHeadsFrom : ℕ → List ℕ → List ℤ → Type 0
AreHeadsFrom from heads watched = (p : ℕ) → p < length heads → (slice_index heads p ≡ no_link) ⊎ ((w : ℕ) × ((from ≤ w) × ((w < length watched) × (place_at watched w ≡ p))))

-- there is a head for each literal of packages from 1 to count, and none leads somewhere but those of literals that are watched
pub record AreHeads (count : ℕ) (heads : List ℕ) (watched : List ℤ) : Type 0 where
  pub room : length heads ≡ 2 * count + 2
  pub each : AreHeadsFrom 0 heads watched

-- rules that stand among all from a number on, and are in use where they are there
pub record IsPart (all : List (List ℤ)) (used : ℕ → Bool) (base : ℕ) (rules : List (List ℤ)) (own : ℕ → Bool) : Type 0 where
  pub clause : (r : ℕ) (c : List ℤ) → slice_get rules r ≡ Some c → slice_get all (base + r) ≡ Some c
  pub in_use : (r : ℕ) → own r ≡ true → used (base + r) ≡ true

-- what a visit of a rule finds, where its other watched literal is given
pub data Visited (rules : List (List ℤ)) (used : ℕ → Bool) (lits : List ℤ) (rule : ℕ) (b : ℤ) : Visit → Type 0 where
  stays : (used rule ≡ true → is_fact lits b ≡ true) → Visited rules used lits rule b Stays
  falsified : (c : List ℤ) → IsUsed rules used rule c → is_falsified lits c ≡ true → Visited rules used lits rule b Falsified
  forces : (c : List ℤ) → IsUsed rules used rule c → forced lits c ≡ Some b → Visited rules used lits rule b Forces
  moves : (y : ℤ) (c : List ℤ) → IsUsed rules used rule c → AreTwoOf y b c → is_refuted lits y ≡ false → Visited rules used lits rule b (Moves y)

-- those with fewer than two literals are true at each choice
abbrev pub AreNarrowTrueAtChoices : List (List ℤ) → (ℕ → Bool) → List ℤ → List ℕ → Type 0
AreNarrowTrueAtChoices rules used lits marks = (k : ℕ) → k < length marks → AreNarrowTrue rules used (take (slice_index marks k) lits)

-- all that is kept at each choice
pub record IsKeptAtChoices (rules : List (List ℤ)) (used : ℕ → Bool) (watched lits : List ℤ) (marks : List ℕ) : Type 0 where
  pub guards : AreGuardsAtChoices rules used watched lits marks
  pub narrow : AreNarrowTrueAtChoices rules used lits marks

-- all that is kept where the literals from a place on are still to be looked at
pub record IsKeptUpto (rules : List (List ℤ)) (used : ℕ → Bool) (watched lits : List ℤ) (at : ℕ) : Type 0 where
  pub guards : AreGuards rules used watched Each (take at lits) lits
  pub narrow : AreNarrowTrue rules used lits

-- no rule is without use
abbrev pub always : ℕ → Bool
always r = true

-- each rule with fewer than two literals is among these numbers, which are numbers of rules
pub record AreNarrow (rules : List (List ℤ)) (numbers : List ℕ) : Type 0 where
  pub rule : (k : ℕ) → k < length numbers → slice_index numbers k < length rules
  pub narrow : (k : ℕ) (c : List ℤ) → k < length numbers → slice_get rules (slice_index numbers k) ≡ Some c → length c < 2
  pub all : (r : ℕ) (c : List ℤ) → slice_get rules r ≡ Some c → length c < 2 → (k : ℕ) × (k < length numbers) × (slice_index numbers k ≡ r)

-- so far as the first r rules go
pub record AreChainedTo (count r : ℕ) (rules : List (List ℤ)) (heads links : List ℕ) (watched : List ℤ) : Type 0 where
  pub two : length watched ≡ 2 * r
  pub upto : r ≤ length rules
  pub linked : length links ≡ 2 * length rules
  pub few : length rules ≤ 2 ^ 28
  pub room : length heads ≡ 2 * count + 2
  pub pairs : ArePairs (take r rules) watched
  pub chain : ℕ → List ℕ
  pub hung : AreHung heads links (IsWatch (take r rules)) (place_at watched) chain
  pub all : AreAllHung (IsWatch (take r rules)) (place_at watched) chain
