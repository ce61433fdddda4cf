-- What a core has learnt stands in a ledger.
use Rattle.std.specs.Prelude.{◌≡◌, ◌≤◌, ◌<◌, ◌+◌, ◌-◌, ℕ, zero, suc, ℤ, nat_lt, Bool, true, List, [], ◌∷◌, length, map, slice_get, slice_index_or, Some, ◌&&◌, if◌then◌else◌}
use Rattle.std.specs.List.{list_all}
use Rattle.solv_derive.specs.Leaves.{named_rules}
use Rattle.solv_derive.specs.Logs.{are_good_steps}
use Rattle.solv_derive.specs.Range.{steps_over}
use Rattle.solv_derive.specs.declared.logs.Hint.{Hint}
use Rattle.solv_derive.specs.declared.logs.Hint.TheVariants as hint
use Rattle.solv_derive.specs.declared.logs.Step.{Step}
use Rattle.solv_trail.specs.Propagated.{in_use}
use Rattle.solv_derive.specs.Inner.Trimming.{is_on, renumbered, renumbered_step, hints_at}
use Rattle.solv_core.specs.Inner.Cores.{LearningCore}
use Rattle.solv_core.specs.declared.ledger.Entry.{Entry}
use Rattle.solv_core.specs.declared.ledger.Ledger.{Ledger}

-- the number of the entry of a learnt rule: the rules that were kept come first, then those that were learnt, from a first entry on
abbrev pub entry_of : List ℕ → ℕ → ℕ → ℕ
entry_of kept first rule = if nat_lt rule (length kept) then slice_index_or kept rule 0 else first + (rule - length kept)

-- the entry with its hints by the numbers of entries
abbrev pub numbered_entry : (ℕ → ℕ) → Entry → Entry
numbered_entry number e = record { run = e.run; clause = e.clause; hints = map (renumbered number) e.hints }

-- the entry of this number is the step
abbrev pub IsStepAt : List Entry → ℕ → Step → Type 0
IsStepAt entries number s = (e : Entry) × ((slice_get entries number ≡ Some e) × ((e.clause ≡ s.clause) × (e.hints ≡ s.hints)))

-- steps are entries, under numbers that ascend; each rests on the book and on steps before it
pub record AreEntries (entries : List Entry) (number : ℕ → ℕ) (steps : List Step) : Type 0 where
  pub few : length steps ≤ length entries
  pub rising : (i k : ℕ) → i < k → k < length steps → number i < number k
  pub earlier : (i n : ℕ) (s : Step) → slice_get steps i ≡ Some s → hints_at n s.hints ≡ true → n < i
  pub held : (i : ℕ) (s : Step) → slice_get steps i ≡ Some s → IsStepAt entries (number i) (renumbered_step number s)

-- these clauses are derived from the book's by steps
pub record AreDerived (book : List (List ℤ)) (packages : ℕ) (clauses : List (List ℤ)) (steps : List Step) : Type 0 where
  pub are : clauses ≡ map (λ s. s.clause) steps
  pub good : are_good_steps book [] steps ≡ true
  pub over : steps_over packages steps ≡ true

-- clauses in use, with a derivation of which each leaf is a rule in use
pub record AreInUse (book : List (List ℤ)) (used : ℕ → Bool) (packages : ℕ) (entries : List Entry) (number : ℕ → ℕ) (learnt : List (List ℤ)) (steps : List Step) : Type 0 where
  pub derived : AreDerived book packages learnt steps
  pub held : AreEntries entries number steps
  pub rests : list_all (λ rule. nat_lt rule (length book) && used rule) (named_rules steps) ≡ true

-- the ledger holds what the core has learnt and still uses, under the same numbers
pub record IsHeldBy (core : LearningCore) (ledger : Ledger) : Type 0 where
  pub steps : List Step
  pub derived : AreDerived core.made.clauses core.made.packages core.in_use.clauses steps
  pub held : AreEntries ledger.entries (entry_of core.in_use.kept core.in_use.first) steps
  pub few : length core.in_use.kept ≤ length core.in_use.clauses
  pub behind : core.in_use.first ≤ length ledger.entries

-- a step that the hint names has a number below this
abbrev pub is_step_below : ℕ → Hint → Bool
is_step_below most (hint.Book rule) = true
is_step_below most (hint.Step step) = nat_lt step most

-- what a hint of an entry rests on stays in use, where it is flagged which entries do
abbrev pub hint_stays : List ℕ → List Bool → List Bool → Hint → Bool
hint_stays owners enabled flags (hint.Book rule) = nat_lt rule (length owners) && in_use owners enabled rule
hint_stays owners enabled flags (hint.Step entry) = is_on flags entry

-- the numbers of rules in use, among so many from this rule on
abbrev pub numbers_on : (ℕ → Bool) → (ℕ → ℕ) → ℕ → ℕ → List ℕ
numbers_on used number rule zero = []
numbers_on used number rule (suc more) = if used rule then number rule ∷ numbers_on used number (suc rule) more else numbers_on used number (suc rule) more

-- what is kept when a run begins: clauses with a derivation of which each leaf is a clause of an enabled rule, under ascending numbers of entries before the first
-- that the run may learn
pub record IsBegun (book : List (List ℤ)) (owners : List ℕ) (packages : ℕ) (enabled : List Bool) (entries : List Entry) (noted kept : List ℕ) (first : ℕ) (learnt : List (List ℤ)) : Type 0 where
  pub steps : List Step
  pub derived : AreDerived book packages learnt steps
  pub held : AreEntries entries (entry_of kept first) steps
  pub many : length kept ≡ length learnt
  pub rests : list_all (λ rule. nat_lt rule (length book) && in_use owners enabled rule) (named_rules steps) ≡ true
  pub behind : first ≡ length entries
  pub same : kept ≡ noted
