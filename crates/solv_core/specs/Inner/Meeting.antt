-- Sets that a table gives.
use Rattle.std.specs.Prelude.{ℕ, ◌==◌, ◌||◌, Bool, false, List, slice_index_or}

-- the set of the system and of the packages that a table marks
abbrev pub set_by : List Bool → ℕ → Bool
set_by marks p = (p == 0) || slice_index_or marks p false
