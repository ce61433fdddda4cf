-- Lines of scripts as commands: what the words of a line say by themselves, or the first cause for which they say nothing.
use Rattle.std.specs.Prelude.{ℕ, ℤ, ◌-◌, ◌==◌, not, ◌&&◌, ◌||◌, Bool, true, false, List, [], ◌∷◌, codes, length, take, drop, nat_lt, nat_le, slice_get, Option, Some, None, ok_or, option_and_then, Result, Ok, Err, if◌then◌else◌}
use Rattle.std.specs.List.{last_or}
use Rattle.std.specs.Option.{option_len, option_map_or}
use Rattle.std.specs.Str.{bytes_eq}
use Rattle.solv_io.specs.JoinedWords.{joined}
use Rattle.solv_base.specs.declared.comparison.Cmp.{Cmp}
use Rattle.solv_deps.specs.Grammar.{comparison, is_namespace}
use Rattle.solv_pool.specs.declared.jobs.Action.{Action}
use Rattle.solv_pool.specs.declared.jobs.Action.TheVariants.{Install, Erase, Update, Distupgrade, Lock, Verify, Multiversion, AllowUninstall, Favor, Disfavor, UserInstalled, Noop}
use Rattle.solv_pool.specs.JobKinds.{acts}
use Rattle.solv_commands.specs.Commas.{between_commas}
use Rattle.solv_commands.specs.Numbers.{priority}
use Rattle.solv_commands.specs.Switches.{Switch, with_switches}
use Rattle.solv_commands.specs.declared.flags_of_jobs.JobFlags.{JobFlags}
use Rattle.solv_commands.specs.declared.causes.Cause.{Cause}
use Rattle.solv_commands.specs.declared.causes.Cause.TheVariants.{BadWords, BadNumber, BadRepoType, BadNamespace, BadOperator, UnknownJob, UnknownJobFlag, FlagNotHere, UnknownSelection, UnknownLine}

-- what a job selects, as it is written; a dependency stands here as its words
pub data Asked : Type 0 where
  pkg : List ℕ → Asked
  by_name by_provides one_of : List (List ℕ) → Asked
  all nothing : Asked

-- a line: a repository that is empty names no file; a `result` line has the word of its kinds, and its file; a job has its action, its selection, its flags, and its own text
pub data Command : Type 0 where
  repo : List ℕ → ℤ → Option (List ℕ) → Command
  system : List ℕ → List ℕ → Option (List ℕ) → Command
  solverflags : List (List ℕ) → Command
  namespace : List ℕ → List (List ℕ) → Command
  disable : List ℕ → Command
  evrcmp : List ℕ → Cmp → List ℕ → Command
  results : List ℕ → List ℕ → Command
  job : Action → Asked → JobFlags → List ℕ → Command
  next_round : Command

-- what follows where there is no cause
abbrev pub and_then : {A B E : Type 0} → Result A E → (A → Result B E) → Result B E
and_then (Ok x) next = next x
and_then (Err cause) next = Err cause

-- how many files come after the type of a repository
abbrev pub file_count : List ℕ → Option ℕ
file_count type = if bytes_eq type (codes "empty") then Some 0 else (if bytes_eq type (codes "testtags") then Some 1 else None)

-- `repo NAME PRIORITY testtags FILE`, `repo NAME PRIORITY empty`; after another type no word or one stands
abbrev pub repo_line : List (List ℕ) → Result Command Cause
repo_line (name ∷ number ∷ type ∷ files) =
    if option_map_or (λ count. length files == count) (file_count type) (nat_le (length files) 1)
    then and_then (ok_or (priority number) BadNumber) (λ p. and_then (ok_or (file_count type) BadRepoType) (λ count. Ok (repo name p (slice_get files 0))))
    else Err BadWords
repo_line words = Err BadWords

-- `system ARCH TYPE`, `system ARCH TYPE REPO`
abbrev pub system_line : List (List ℕ) → Result Command Cause
system_line (arch ∷ type ∷ []) = Ok (system arch type None)
system_line (arch ∷ type ∷ name ∷ []) = Ok (system arch type (Some name))
system_line words = Err BadWords

-- `namespace namespace:NAME(ARG) PACKAGE ..`, with one package at least
abbrev pub namespace_line : List (List ℕ) → Result Command Cause
namespace_line (name ∷ first ∷ packages) = if is_namespace name then Ok (namespace name (first ∷ packages)) else Err BadNamespace
namespace_line words = Err BadWords

-- `disable pkg PACKAGE`
abbrev pub disable_line : List (List ℕ) → Result Command Cause
disable_line (kind ∷ package_text ∷ []) = if bytes_eq kind (codes "pkg") then Ok (disable package_text) else Err BadWords
disable_line words = Err BadWords

-- `evrcmp EVR COMPARISON EVR`
abbrev pub evrcmp_line : List (List ℕ) → Result Command Cause
evrcmp_line (left ∷ sign ∷ right ∷ []) = and_then (ok_or (comparison sign) BadOperator) (λ c. Ok (evrcmp left c right))
evrcmp_line words = Err BadWords

-- the action that a word is
abbrev pub action : List ℕ → Result Action Cause
action word =
    if bytes_eq word (codes "install") then Ok Install
    else (if bytes_eq word (codes "erase") then Ok Erase
    else (if bytes_eq word (codes "update") then Ok Update
    else (if bytes_eq word (codes "distupgrade") then Ok Distupgrade
    else (if bytes_eq word (codes "lock") then Ok Lock
    else (if bytes_eq word (codes "verify") then Ok Verify
    else (if bytes_eq word (codes "multiversion") then Ok Multiversion
    else (if bytes_eq word (codes "allowuninstall") then Ok AllowUninstall
    else (if bytes_eq word (codes "favor") then Ok Favor
    else (if bytes_eq word (codes "disfavor") then Ok Disfavor
    else (if bytes_eq word (codes "userinstalled") then Ok UserInstalled
    else (if bytes_eq word (codes "noop") then Ok Noop
    else Err UnknownJob)))))))))))

-- a word in square brackets
abbrev pub is_bracketed : List ℕ → Bool
is_bracketed word = nat_le 2 (length word) && (bytes_eq (take 1 word) (codes "[") && bytes_eq (drop (length word - 1) word) (codes "]"))

-- the flags of a job: its last word, where it is in brackets
abbrev pub flag_word : List (List ℕ) → Option (List ℕ)
flag_word words = option_and_then (λ word. if is_bracketed word then Some word else None) (last_or None words)

-- the words before them
abbrev pub before_flags : List (List ℕ) → List (List ℕ)
before_flags words = take (length words - option_len (flag_word words)) words

-- no flag
abbrev pub no_job_flags : JobFlags
no_job_flags = record { forcebest = false; cleandeps = false }

-- what turns a flag of a job on or off
abbrev pub job_switches : List (Switch JobFlags)
job_switches =
    record { name = codes "forcebest"; is_on = λ flags. flags.forcebest; turned = λ on flags. record flags { forcebest = on } }
    ∷ record { name = codes "cleandeps"; is_on = λ flags. flags.cleandeps; turned = λ on flags. record flags { cleandeps = on } }
    ∷ []

-- the flags of a job, which the word in brackets names between commas
abbrev pub job_flags : Option (List ℕ) → Result JobFlags Cause
job_flags None = Ok no_job_flags
job_flags (Some word) = ok_or (with_switches job_switches (between_commas (take (length word - 2) (drop 1 word))) no_job_flags) UnknownJobFlag

-- words, one at least
abbrev pub some_words : (List (List ℕ) → Asked) → List (List ℕ) → Result Asked Cause
some_words asked words = if length words == 0 then Err BadWords else Ok (asked words)

-- a selection: `pkg PACKAGE`, `name DEPENDENCY`, `provides DEPENDENCY`, `oneof PACKAGE ..`, `all packages`
abbrev pub selection : List ℕ → List (List ℕ) → Result Asked Cause
selection kind words =
    if bytes_eq kind (codes "pkg") then (elim words [ package_text ∷ [] ↦ Ok (pkg package_text) | others ↦ Err BadWords ])
    else (if bytes_eq kind (codes "name") then some_words by_name words
    else (if bytes_eq kind (codes "provides") then some_words by_provides words
    else (if bytes_eq kind (codes "oneof") then some_words one_of words
    else (if bytes_eq kind (codes "all") then (elim words [ word ∷ [] ↦ if bytes_eq word (codes "packages") then Ok all else Err BadWords | others ↦ Err BadWords ])
    else Err UnknownSelection))))

-- the selection of an action: `noop` may go without one
abbrev pub asked : Action → List (List ℕ) → Result Asked Cause
asked Noop [] = Ok nothing
asked other [] = Err UnknownSelection
asked action (kind ∷ words) = selection kind words

-- may these flags stand at this action? The best may be forced where something comes, and only an erase job cleans
abbrev pub fits_flags : Action → JobFlags → Bool
fits_flags action flags = (not flags.forcebest || (elim action [ Install ↦ true | Update ↦ true | other ↦ false ])) && (not flags.cleandeps || acts Erase action)

-- `job ACTION SELECTION [FLAG,..]`; `noop` may stand alone
abbrev pub job_line : List (List ℕ) → Result Command Cause
job_line [] = Err BadWords
job_line (word ∷ words) =
    if nat_lt 0 (length words) || bytes_eq word (codes "noop")
    then and_then (action word) (λ a. and_then (job_flags (flag_word words)) (λ flags.
    if fits_flags a flags then and_then (asked a (before_flags words)) (λ s. Ok (job a s flags (joined (word ∷ words)))) else Err FlagNotHere))
    else Err BadWords

-- a line, by its first word and the others: one of those above, `solverflags FLAG ..`, `result KIND,.. FILE` or `nextjob`
abbrev pub command : List ℕ → List (List ℕ) → Result Command Cause
command first words =
    if bytes_eq first (codes "repo") then repo_line words
    else (if bytes_eq first (codes "system") then system_line words
    else (if bytes_eq first (codes "solverflags") then Ok (solverflags words)
    else (if bytes_eq first (codes "namespace") then namespace_line words
    else (if bytes_eq first (codes "disable") then disable_line words
    else (if bytes_eq first (codes "evrcmp") then evrcmp_line words
    else (if bytes_eq first (codes "job") then job_line words
    else (if bytes_eq first (codes "result") then (elim words [ kinds ∷ file ∷ [] ↦ Ok (results kinds file) | others ↦ Err BadWords ])
    else (if bytes_eq first (codes "nextjob") then (elim words [ [] ↦ Ok next_round | others ↦ Err BadWords ])
    else Err UnknownLine))))))))
