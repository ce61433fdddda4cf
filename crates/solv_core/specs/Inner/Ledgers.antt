-- What runs leave of a ledger.
use Rattle.std.specs.Prelude.{◌≡◌, ◌⊎◌, ◌≤◌, ◌+◌, ◌-◌, ◌==◌, ◌++◌, ◌∷◌, [], ℕ, Bool, true, List, length, filter, flat_map, take, drop}
use Rattle.std.specs.List.{list_all, range_with_len}
use Rattle.solv_derive.specs.declared.logs.Hint.{Hint}
use Rattle.solv_core.specs.Ledgers.{leaves_of_hint, leaves_after, rests_on_enabled}
use Rattle.solv_core.specs.Inner.Cores.{LearningCore, numbers_in_use}
use Rattle.solv_core.specs.declared.ledger.Entry.{Entry}
use Rattle.solv_core.specs.declared.ledger.Ledger.{Ledger}
use Rattle.solv_core.specs.declared.ledger.Run.{Run}

-- the book's clauses that hints rest on, where the leaves of each entry are given
abbrev pub leaves_of_hints : List (List ℕ) → List Hint → List ℕ
leaves_of_hints before hints = flat_map (leaves_of_hint before) hints

-- the leaves of each entry
abbrev pub entry_leaves : List Entry → List (List ℕ)
entry_leaves entries = leaves_after [] entries

-- each entry is of this run
abbrev pub are_of_run : ℕ → List Entry → Bool
are_of_run run entries = list_all (λ e. e.run == run) entries

-- what a run leaves of a ledger: its budget, and the earlier runs and entries; after these it puts entries of its own, so that there are at most one more than the budget
pub record GrowsLedger (old new : Ledger) : Type 0 where
  pub budget : new.budget ≡ old.budget
  pub few : length new.entries ≤ new.budget + 1
  pub earlier_runs : take (length old.runs) new.runs ≡ old.runs
  pub earlier_entries : take (length old.entries) new.entries ≡ old.entries
  pub own_entries : are_of_run (length old.runs) (drop (length old.entries) new.entries) ≡ true

-- the next run of a core, with these rules enabled: of the entries in use it keeps those whose leaves are clauses of enabled rules
abbrev pub run_of : LearningCore → List Bool → List Entry → Run
run_of core enabled entries = record { enabled = enabled; kept = filter (rests_on_enabled core.made.clauses core.made.owners enabled entries) (numbers_in_use core.in_use) }

-- the entries in use at the end of a run: those that it kept, and those after the earlier ones
abbrev pub in_use_after : Run → List Entry → List Entry → List ℕ
in_use_after run before after = run.kept ++ range_with_len (length before) (length after - length before)

-- what a run with these rules enabled leaves where it is refused memory: ledger and core as before, or a ledger that has the run and what it learnt until then, and
-- a core that uses what the run kept and learnt
abbrev pub LeftByRefusal : List Bool → Ledger → Ledger → LearningCore → LearningCore → Type 0
LeftByRefusal enabled before after core left =
    ((after ≡ before) × (left ≡ core)) ⊎ ((after.runs ≡ before.runs ++ run_of core enabled before.entries ∷ []) × (numbers_in_use left.in_use ≡ in_use_after (run_of core enabled before.entries) before.entries after.entries))
