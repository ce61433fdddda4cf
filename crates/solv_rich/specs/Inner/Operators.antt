-- The clauses of a relation by those of its operands.
use Rattle.std.specs.Prelude.{ℕ, ◌+◌, ◌*◌, Bool, true, false, not, ◌&&◌, nat_lt, List, [], ◌++◌, length, Option}
use Rattle.solv_pool.specs.Prelude.{Dep, Catalog, dependency, Clause, times, all_meeting, clauses_package_wise, clauses_of, clause_count}
use Rattle.solv_rich.specs.declared.operators.Parts.{Parts}
use Rattle.solv_rich.specs.declared.operators.Parts.TheVariants.{Packages, Joined, Crossed, Chosen, Nothing}

-- without a package that does not count
module _ (catalog : Catalog) (x : Option ℕ) where
  -- the clauses of the relation d: it holds (true), or it does not (false)
  abbrev pub clauses_by : Bool → ℕ → Parts → List Clause
  clauses_by at d Packages = clauses_package_wise catalog x at (dependency catalog d)
  clauses_by at d (Joined a b) = clauses_of catalog x at (dependency catalog a) ++ clauses_of catalog x at (dependency catalog b)
  clauses_by at d (Crossed a b other) = times (clauses_of catalog x at (dependency catalog a)) (clauses_of catalog x other (dependency catalog b))
  clauses_by at d (Chosen a b c) =
      times (clauses_of catalog x at (dependency catalog a)) (clauses_of catalog x (not at) (dependency catalog b))
      ++ times (clauses_of catalog x at (dependency catalog c)) (clauses_of catalog x at (dependency catalog b))
  clauses_by at d Nothing = []

  -- how many clauses a package-wise dependency gives
  abbrev pub count_package_wise : Bool → Dep ℕ → ℕ
  count_package_wise true d = 1
  count_package_wise false d = length (all_meeting catalog x d)

  -- how many they are
  abbrev pub count_by : Bool → ℕ → Parts → ℕ
  count_by at d Packages = count_package_wise at (dependency catalog d)
  count_by at d (Joined a b) = clause_count catalog x at (dependency catalog a) + clause_count catalog x at (dependency catalog b)
  count_by at d (Crossed a b other) = clause_count catalog x at (dependency catalog a) * clause_count catalog x other (dependency catalog b)
  count_by at d (Chosen a b c) =
      clause_count catalog x at (dependency catalog a) * clause_count catalog x (not at) (dependency catalog b)
      + clause_count catalog x at (dependency catalog c) * clause_count catalog x at (dependency catalog b)
  count_by at d Nothing = 0

-- each operand has a smaller id than its relation
abbrev pub are_below : ℕ → Parts → Bool
are_below d Packages = true
are_below d (Joined a b) = nat_lt a d && nat_lt b d
are_below d (Crossed a b other) = nat_lt a d && nat_lt b d
are_below d (Chosen a b c) = nat_lt a d && (nat_lt b d && nat_lt c d)
are_below d Nothing = true
