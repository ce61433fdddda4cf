-- Names for parts of what lines give.
use Rattle.std.specs.Prelude.{ℕ, zero, suc, ◌==◌, Bool, true, false, List, [], ◌∷◌, ◌++◌, codes, map, take, slice_set, is_some, option_map, Option, Some, None, ok_or, Result, Ok, Err, if◌then◌else◌}
use Rattle.solv_commands.specs.Commands.{and_then}
use Rattle.solv_commands.specs.declared.causes.Cause.{Cause}
use Rattle.std.specs.List.{list_any}
use Rattle.std.specs.Option.{option_transpose}
use Rattle.std.specs.Str.{bytes_eq}
use Rattle.solv_base.specs.declared.comparison.Cmp.{Cmp}
use Rattle.solv_base.specs.Pool.{Held}
use Rattle.solv_pool.specs.Written as written
use Rattle.solv_pool.specs.declared.universes.Arch.{Arch}
use Rattle.solv_commands.specs.Inner.FlagWords.{with_words}
use Rattle.solv_commands.specs.declared.causes.Cause.TheVariants.{UnknownFlag, UnknownPackage, UnknownRepo, DuplicateResult, SystemInJob}
use Rattle.solv_script.specs.States.{State, package_number, repo_place, rounds_given}
use Rattle.solv_script.specs.Results.{kinds_named}
use Rattle.solv_script.specs.Rows.{Chosen}
use Rattle.solv_tags.specs.Testtags.{Repository}
use Rattle.solv_script.specs.Grammar.{inline}
use Rattle.solv_script.specs.Inner.LineRows.{Purpose, Row, done, file_row, with_lines}
use Rattle.solv_script.specs.ScriptLines.{ScriptLine}
use Rattle.solv_script.specs.Reads.{WrittenRound, default_kinds}

-- what follows where something is there, or else a cause
abbrev pub or_cause : {A B : Type 0} → Option A → Cause → (A → Result B Cause) → Result B Cause
or_cause o c next = and_then (ok_or o c) next

-- a line that begins with `#>`
abbrev pub is_inline : List ℕ → Bool
is_inline line = bytes_eq (take 2 line) (codes "#>")

-- lines of packages and of the system, by their first word
abbrev pub is_of_packages : List ℕ → Bool
is_of_packages first = list_any (bytes_eq first) (codes "repo" ∷ codes "system" ∷ codes "namespace" ∷ codes "disable" ∷ [])

-- `evrcmp A OP B`
abbrev pub evrcmp_row : State → List ℕ → Cmp → List ℕ → Result State Cause
evrcmp_row s left op right = Ok (record s { checks = s.checks ++ record { left = left; op = op; right = right } ∷ [] })

-- `solverflags FLAG ..`
abbrev pub flags_row : State → List (List ℕ) → Result State Cause
flags_row s words = and_then (ok_or (with_words words s.task.flags) UnknownFlag) (λ flags. Ok (record s { task = record s.task { flags = flags } }))

-- the system, with the installed repository, if any
abbrev pub installed_row : State → Arch → Option (List ℕ) → Result State Cause
installed_row s arch installed =
    and_then (option_transpose (option_map (λ repo. ok_or (repo_place s.task repo) UnknownRepo) installed)) (λ place. Ok (record s { task = record s.task { arch = Some arch; installed = place } }))

-- a package that is disabled, which is not the system
abbrev pub disabled : State → ℕ → Result State Cause
disabled s = elim [ zero ↦ Err UnknownPackage | suc k ↦ Ok (record s { task = record s.task { disabled = slice_set s.task.disabled k true } }) ]

-- one package, which is not the system
abbrev pub one_package : Held → ℕ → Result Chosen Cause
one_package held = elim [ zero ↦ Err SystemInJob | suc k ↦ Ok (record { choice = written.pkg (suc k); held = held }) ]

-- packages, of which none is the system
abbrev pub some_packages : Held → List ℕ → Result Chosen Cause
some_packages held ps = if list_any (λ p. p == 0) ps then Err SystemInJob else Ok (record { choice = written.one_of ps; held = held })

-- `result KIND,.. FILE`
abbrev pub result_row : State → List ℕ → Result State Cause
result_row s word = if is_some s.wanted then Err DuplicateResult else and_then (kinds_named word) (λ kinds. Ok (record s { kinds = kinds; wanted = Some [] }))

-- `nextjob`
abbrev pub next_row : State → Result State Cause
next_row s = Ok (record s { task = record s.task { jobs = [] }; kinds = default_kinds; wanted = None; earlier = rounds_given s })

-- `disable pkg P`
abbrev pub disable_row : State → List ℕ → Result State Cause
disable_row s word = and_then (ok_or (package_number s.task word) UnknownPackage) (disabled s)

-- the packages of a repository's lines, which come after the others and are not disabled
abbrev pub with_repository : State → Repository → State
with_repository s r = record s {
  held = r.held;
  task = record s.task { packages = s.task.packages ++ r.packages; disabled = s.task.disabled ++ map (λ a. false) r.packages };
}

-- the lines that follow, or those of a file
abbrev pub named_row : List ℕ → Purpose → State → ScriptLine → List ℕ → Row
named_row script purpose s line file = if bytes_eq file inline then done (with_lines purpose s script line.block) else file_row script purpose s line.number file

-- the round in hand
abbrev pub in_hand : State → WrittenRound
in_hand s = record { flags = s.task.flags; jobs = s.task.jobs; kinds = s.kinds; wanted = s.wanted }
