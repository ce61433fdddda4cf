-- Lines and selections that are said in one line of the definition of all.
use Rattle.std.specs.Prelude.{ℕ, List, [], ◌∷◌, codes, Result, Ok, Err, if◌then◌else◌}
use Rattle.std.specs.Str.{bytes_eq}
use Rattle.solv_commands.specs.Commands.{Asked, Command, all, next_round, results}
use Rattle.solv_commands.specs.declared.causes.Cause.{Cause}
use Rattle.solv_commands.specs.declared.causes.Cause.TheVariants.{BadWords}

-- `result KIND,.. FILE`
abbrev pub result_line : List (List ℕ) → Result Command Cause
result_line words = elim words [ kinds ∷ file ∷ [] ↦ Ok (results kinds file) | others ↦ Err BadWords ]

-- `nextjob`
abbrev pub next_line : List (List ℕ) → Result Command Cause
next_line words = elim words [ [] ↦ Ok next_round | others ↦ Err BadWords ]

-- the one word `packages`
abbrev pub all_packages : List (List ℕ) → Result Asked Cause
all_packages words = elim words [ word ∷ [] ↦ if bytes_eq word (codes "packages") then Ok all else Err BadWords | others ↦ Err BadWords ]
