-- A core with what it has learnt.
use Rattle.std.specs.Prelude.{ℕ, ℤ, List, [], ◌++◌, ◌-◌, length}
use Rattle.std.specs.List.{range_with_len}
use Rattle.solv_core.specs.Cores.{CoreOf}
use Rattle.solv_core.specs.declared.parts.Parts.{Parts}
use Rattle.solv_core.specs.declared.parts.Used.{Used}

-- the entries of a ledger that are in use: those that the last run kept, by their numbers, and those that it learnt, from a first number on; and the clauses
-- of both
pub record InUse : Type 0 where
  pub kept : List ℕ
  pub first : ℕ
  pub clauses : List (List ℤ)

pub record LearningCore : Type 0 where
  pub made : CoreOf
  pub in_use : InUse

-- the core of these parts, over the clauses and owners that they are used with
abbrev pub core_of : Used → Parts → LearningCore
core_of used parts = record {
  made = record { clauses = used.book.now.rules; owners = used.owners.now; packages = parts.known.count };
  in_use = record { kept = parts.numbers.kept.items; first = parts.numbers.first; clauses = parts.learnt.rules };
}

-- nothing is learnt yet
abbrev pub none_in_use : InUse
none_in_use = record { kept = []; first = 0; clauses = [] }

-- the numbers of the entries in use, ascending
abbrev pub numbers_in_use : InUse → List ℕ
numbers_in_use u = u.kept ++ range_with_len u.first (length u.clauses - length u.kept)
