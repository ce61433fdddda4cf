-- Clauses that a list of facts satisfies.
use Rattle.std.specs.Prelude.{ℤ, Bool, List}
use Rattle.std.specs.List.{list_any}
use Rattle.solv_pool.specs.Prelude.{is_fact}

-- some literal of the clause is a fact
abbrev pub is_satisfied : List ℤ → List ℤ → Bool
is_satisfied facts c = list_any (is_fact facts) c
