-- The lines of rounds, by ids: a job's line is its text, whatever its ids mean.
use Rattle.std.specs.Prelude.{ℕ, List, ◌∷◌, ◌++◌, map, flat_map, codes}
use Rattle.solv_io.specs.JoinedWords.{joined}
use Rattle.solv_script.specs.declared.scripts.Round.{Round}
use Rattle.solv_writing.specs.Inner.ScriptParts.{flag_words, result_lines}

abbrev pub round_text : Round → List (List ℕ)
round_text r = joined (codes "solverflags" ∷ flag_words r.flags) ∷ (map (λ job. codes "job " ++ job.text) r.jobs ++ result_lines r.kinds r.wanted)

-- those after the first one
abbrev pub later_text : List Round → List (List ℕ)
later_text rounds = flat_map (λ r. codes "nextjob" ∷ round_text r) rounds
