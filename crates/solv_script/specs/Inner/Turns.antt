-- A round of a script in front. Inner contracts alone speak of it.
use Rattle.std.specs.Prelude.{ℕ, List, Some, None, slice_get, slice_set}
use Rattle.solv_script.specs.Rounds.{Turn, first_round, turn_of, with_jobs_of}
use Rattle.solv_script.specs.declared.scripts.Round.{Round}
use Rattle.solv_script.specs.declared.scripts.Script.{Script}

-- the first round
abbrev pub first_turn : Script → Turn
first_turn script = turn_of script (first_round script)

-- a script with another round in front, and these after it
abbrev pub with_front : Script → Round → List Round → Script
with_front script r later = record { task = with_jobs_of script.task r; kinds = r.kinds; wanted = r.wanted; checks = script.checks; later = later }

-- the script with its first round and the later one at this place exchanged
abbrev pub exchanged : ℕ → Script → Script
exchanged place script = elim (slice_get script.later place) [ None ↦ script | Some r ↦ with_front script r (slice_set script.later place (first_round script)) ]
