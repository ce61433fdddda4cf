-- What a run has learnt so far.
use Rattle.std.specs.Prelude.{◌≡◌, ℕ, ℤ, neg_ℤ, Bool, true, List, [], ◌∷◌, ◌++◌, map, take, length, slice_index, Option}
use Rattle.std.specs.List.{list_all}
use Rattle.solv_derive.specs.Logs.{ends_in_conflict}
use Rattle.solv_pool.specs.Prelude.{is_over}
use Rattle.solv_derive.specs.declared.logs.Hint.{Hint}
use Rattle.solv_trail.specs.Inner.Held.{Held}
use Rattle.solv_trail.specs.Inner.Propagated.{IsReasoned}
use Rattle.solv_trail.specs.Inner.Used.{used_clauses}
use Rattle.solv_trail.specs.Walk.{met_by_choices}
use Rattle.solv_learn.specs.Collecting.{is_plain}
use Rattle.solv_learn.specs.Inner.Learning.{IsLearnt}
use Rattle.solv_learn.specs.Inner.Refuting.{Finds, is_in_use}
use Rattle.solv_core.specs.Inner.Holding.{numbered_entry}
use Rattle.solv_core.specs.declared.ledger.Entry.{Entry}

-- the clauses of entries
abbrev pub clauses_of : List Entry → List (List ℤ)
clauses_of entries = map (λ e. e.clause) entries

-- an entry that is learnt over these rules, the learnt ones being entries from `first` on
pub record IsEntry (rules : List (List ℤ)) (used : ℕ → Bool) (asks : (ℤ → Bool) → Option ℕ) (count first packages run : ℕ) (e : Entry) : Type 0 where
  pub of_run : e.run ≡ run
  pub good : (look : Hint → Option (List ℤ)) → Finds look rules count first → ends_in_conflict look (map neg_ℤ e.clause) e.hints ≡ true
  pub in_use : list_all (is_in_use used count first (length rules)) e.hints ≡ true
  pub over : is_over packages e.clause ≡ true
  pub plain : is_plain e.clause ≡ true
  pub met : met_by_choices packages (used_clauses used rules) asks e.clause ≡ true

-- each entry is learnt over the rules and the entries before it
abbrev pub AreLearnt : List (List ℤ) → (ℕ → Bool) → ((ℤ → Bool) → Option ℕ) → ℕ → ℕ → ℕ → ℕ → List Entry → Type 0
AreLearnt rules used asks count first packages run [] = Unit {0}
AreLearnt rules used asks count first packages run (e ∷ entries) = IsEntry rules used asks count first packages run e × AreLearnt (rules ++ e.clause ∷ []) used asks count first packages run entries

-- a conflict over these rules was analysed: the learnt clause is an entry, whose hints name learnt rules by the numbers of their entries; the last decisions are undone, and its first literal is known
pub record IsEntered (rules : List (List ℤ)) (count : ℕ) (number : ℕ → ℕ) (run rule : ℕ) (old new : Held) (before after : List Entry) (entry : Entry) (back : ℕ) (lit : ℤ) (rest : List ℤ) : Type 0 where
  pub added : after ≡ before ++ numbered_entry number entry ∷ []
  pub of_run : entry.run ≡ run
  pub clause : entry.clause ≡ lit ∷ rest
  pub learnt : (used : ℕ → Bool) → IsReasoned rules used old → used rule ≡ true → IsLearnt rules used count 0 old entry.clause entry.hints back
  pub known : new ≡ record old {
    lits = take (slice_index old.marks back) old.lits ++ lit ∷ [];
    reasons = take (slice_index old.marks back) old.reasons ++ length rules ∷ [];
    marks = take back old.marks;
    questions = take back old.questions;
  }
