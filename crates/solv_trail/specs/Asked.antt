-- What a guide owes.
use Rattle.std.specs.Prelude.{ℕ, ℤ, pos, ◌==◌, Bool, false, ◌||◌, List, [], ◌∷◌, slice_index_or, if◌then◌else◌}

-- the rule of this number is enabled
abbrev pub is_enabled : List Bool → ℕ → Bool
is_enabled enabled owner = slice_index_or enabled owner false

-- the clauses whose owners are enabled
abbrev pub enabled_clauses : List Bool → List (List ℤ) → List ℕ → List (List ℤ)
enabled_clauses enabled (c ∷ clauses) (o ∷ owners) = if is_enabled enabled o then c ∷ enabled_clauses enabled clauses owners else enabled_clauses enabled clauses owners
enabled_clauses enabled _ _ = []

-- the set of the system and of what is known to be in
abbrev pub set_of : (ℤ → Bool) → ℕ → Bool
set_of known p = (p == 0) || known (pos p)
