-- Which packages literals name.
use Rattle.std.specs.Prelude.{ℕ, ℤ, nat_abs, nat_lt, nat_le, Bool, ◌&&◌, List}
use Rattle.std.specs.List.{list_all}

-- it is of a package from 1 to count
abbrev pub names_package : ℕ → ℤ → Bool
names_package count l = nat_lt 0 (nat_abs l) && nat_le (nat_abs l) count

-- so is each literal of the clause
abbrev pub is_over : ℕ → List ℤ → Bool
is_over count c = list_all (names_package count) c

-- of the clauses
abbrev pub are_over : ℕ → List (List ℤ) → Bool
are_over count clauses = list_all (is_over count) clauses
