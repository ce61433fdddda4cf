-- A list of Booleans, kept as its length and the places where they turn.
use Rattle.std.specs.Prelude.{ℕ, zero, suc, Bool, true, not, nat_le, if◌then◌else◌, List, [], ◌∷◌, ◌++◌}

-- the flag at a place: on, and turned by each of these that is no later
abbrev pub flag_at : List ℕ → ℕ → Bool
flag_at [] i = true
flag_at (t ∷ turns) i = if nat_le t i then not (flag_at turns i) else flag_at turns i

-- so many flags
abbrev pub flags_by : ℕ → List ℕ → List Bool
flags_by zero turns = []
flags_by (suc n) turns = flags_by n turns ++ flag_at turns n ∷ []
