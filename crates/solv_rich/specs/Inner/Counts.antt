-- How many clauses a dependency may have, and where clauses stand that lie one after another.
use Rattle.std.specs.Prelude.{ℕ, ℤ, ◌+◌, ◌≡◌, List, [], ◌∷◌, ◌++◌, length, flat_map}

-- where each clause ends, the first coming after so many literals
abbrev pub ends_behind : ℕ → List (List ℤ) → List ℕ
ends_behind n [] = []
ends_behind n (c ∷ cs) = (n + length c) ∷ ends_behind (n + length c) cs

-- the literals of these clauses come after the others, and the end of each after the other ends
pub record HasAppended (clauses : List (List ℤ)) (old_lits new_lits : List ℤ) (old_ends new_ends : List ℕ) : Type 0 where
  pub literals : new_lits ≡ old_lits ++ flat_map (λ c. c) clauses
  pub ends : new_ends ≡ old_ends ++ ends_behind (length old_lits) clauses
