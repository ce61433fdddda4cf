-- How a run over conflicts ends.
use Rattle.std.specs.Prelude.{◌≡◌, ℕ, ℤ, ◌+◌, ◌<◌, ◌≤◌, Bool, List, ◌++◌, map, length, Option, None}
use Rattle.solv_pool.specs.Prelude.{is_fact}
use Rattle.solv_derive.specs.declared.logs.Hint.{Hint}
use Rattle.solv_trail.specs.Inner.Descends.{IsKept}
use Rattle.solv_trail.specs.Descends.{asked_pack}
use Rattle.solv_trail.specs.Inner.Held.{Held}
use Rattle.solv_trail.specs.Inner.Propagated.{IsAtRest}
use Rattle.solv_trail.specs.declared.questions.Ask.{Ask}
use Rattle.solv_learn.specs.Inner.Learning.{IsRefuted}
use Rattle.solv_core.specs.Inner.Holding.{numbered_entry}
use Rattle.solv_core.specs.Inner.Learnings.{AreLearnt, clauses_of}
use Rattle.solv_core.specs.declared.ledger.Entry.{Entry}
use Rattle.solv_core.specs.declared.settling.Outcome.{Outcome}
use Rattle.solv_core.specs.declared.settling.Outcome.TheVariants as outcome

-- the entries that a run has added, each learnt over the book, what was kept, and those before it; their hints name learnt rules by the numbers of their entries
pub record HasLearnt (book base : List (List ℤ)) (used : ℕ → Bool) (asks : (ℤ → Bool) → Option Ask) (number : ℕ → ℕ) (packages run : ℕ) (before after : List Entry) (learnt : List (List ℤ)) (new : List Entry) : Type 0 where
  pub added : after ≡ before ++ map (numbered_entry number) new
  pub rules : learnt ≡ base ++ clauses_of new
  pub entries : AreLearnt (book ++ base) used (asked_pack asks) (length book) 0 packages run new

-- nothing more is forced or asked; or a conflict without a choice is derived; or the budget is spent
pub data IsSettled (rules : List (List ℤ)) (used : ℕ → Bool) (asks : (ℤ → Bool) → Option Ask) (count : ℕ) (known : Held) (hints : List Hint) (entries budget : ℕ) : Outcome → Type 0 where
  at_rest : IsKept rules used asks known → ((r : ℕ) → r < length rules → IsAtRest rules used known.lits r) → asks (is_fact known.lits) ≡ None → entries ≤ budget → IsSettled rules used asks count known hints entries budget outcome.Settled
  no_choice : IsRefuted rules used count 0 hints → entries ≤ budget → IsSettled rules used asks count known hints entries budget outcome.Refuted
  all_spent : entries ≡ budget + 1 → IsSettled rules used asks count known hints entries budget outcome.Spent
