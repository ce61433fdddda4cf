-- The words of a line of flags.
use Rattle.std.specs.Prelude.{ℕ, List, flat_map, Option}
use Rattle.solv_pool.specs.declared.tasks.Flags.{Flags}
use Rattle.solv_commands.specs.Commas.{between_commas}
use Rattle.solv_commands.specs.SolverFlags.{with_settings}

-- the flags as these words leave them, each with what commas separate in it; none where a flag is unknown
abbrev pub with_words : List (List ℕ) → Flags → Option Flags
with_words words = with_settings (flat_map between_commas words)
