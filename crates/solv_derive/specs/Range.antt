-- Which packages the literals of steps name.
use Rattle.std.specs.Prelude.{ℕ, Bool, List}
use Rattle.std.specs.List.{list_all}
use Rattle.solv_pool.specs.Range.{is_over}
use Rattle.solv_derive.specs.declared.logs.Step.{Step}

-- each literal of the clauses of these steps is of a package from 1 to count
abbrev pub steps_over : ℕ → List Step → Bool
steps_over count steps = list_all (λ s. is_over count s.clause) steps
