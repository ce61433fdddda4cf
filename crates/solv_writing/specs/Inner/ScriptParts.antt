-- The text of a script by its parts, as it is put and read back (proofs/TextInParts).
use Rattle.std.specs.Prelude.{ℕ, ◌+◌, ◌==◌, Bool, true, false, List, [], ◌∷◌, ◌++◌, map, flat_map, filter, codes, Option, Some, None, if◌then◌else◌}
use Rattle.std.specs.Fmt.{signed_decimal}
use Rattle.solv_io.specs.Lines.{ended_lines}
use Rattle.solv_deps.specs.Canonical.{comparison_text}
use Rattle.solv_pool.specs.Prelude.{WrittenTask, WrittenRepo, WrittenPackage}
use Rattle.solv_pool.specs.declared.tasks.Flags.{Flags}
use Rattle.solv_pool.specs.declared.universes.Arch.{Arch}
use Rattle.solv_script.specs.Grammar.{inline}
use Rattle.solv_script.specs.Reads.{WrittenScript, WrittenRound}
use Rattle.solv_script.specs.Rows.{arch_text}
use Rattle.solv_script.specs.States.{repo_name, text_of, text_of_number}
use Rattle.solv_script.specs.declared.scripts.Kinds.{Kinds}
use Rattle.solv_io.specs.JoinedWords.{joined}
use Rattle.solv_writing.specs.ScriptTexts.{inlined}
use Rattle.solv_writing.specs.Inner.TagParts.{tag_lines}

-- a repository of these packages
abbrev pub content_words : List WrittenPackage → List (List ℕ)
content_words [] = codes "empty" ∷ []
content_words (a ∷ others) = codes "testtags" ∷ inline ∷ []

abbrev pub repository_lines : WrittenRepo → List WrittenPackage → List (List ℕ)
repository_lines r packages = joined (codes "repo" ∷ r.name ∷ signed_decimal r.priority ∷ content_words packages) ∷ inlined (tag_lines packages)

-- the packages of the repository with this number
abbrev pub packages_of : ℕ → List WrittenPackage → List WrittenPackage
packages_of place packages = filter (λ a. a.repo == place) packages

-- repositories, the first of which has this number
abbrev pub repositories_from : ℕ → List WrittenRepo → List WrittenPackage → List (List ℕ)
repositories_from place [] packages = []
repositories_from place (r ∷ others) packages = repository_lines r (packages_of place packages) ++ repositories_from (place + 1) others packages

module _ (task : WrittenTask) where
  abbrev pub installed_words : Option ℕ → List (List ℕ)
  installed_words None = []
  installed_words (Some place) = repo_name task place ∷ []

  abbrev pub system_lines : Option Arch → List (List ℕ)
  system_lines None = []
  system_lines (Some arch) = joined (codes "system" ∷ arch_text arch ∷ codes "rpm" ∷ installed_words task.installed) ∷ []

  -- the packages that are disabled, by whether each is
  abbrev pub disabled_lines : List WrittenPackage → List Bool → List (List ℕ)
  disabled_lines (a ∷ packages) (true ∷ others) = joined (codes "disable" ∷ codes "pkg" ∷ text_of task a ∷ []) ∷ disabled_lines packages others
  disabled_lines (a ∷ packages) (false ∷ others) = disabled_lines packages others
  disabled_lines packages others = []

  -- the lines on the universe
  abbrev pub universe_lines : List (List ℕ)
  universe_lines =
      repositories_from 0 task.repos task.packages
      ++ (system_lines task.arch
      ++ (disabled_lines task.packages task.disabled
      ++ map (λ n. joined (codes "namespace" ∷ n.0 ∷ map (text_of_number task) n.1)) task.namespaces))

-- a flag, with `!` before it where it is off
abbrev pub flag_word : Bool → List ℕ → List ℕ
flag_word on name = if on then name else codes "!" ++ name

abbrev pub flag_words : Flags → List (List ℕ)
flag_words f =
    flag_word f.allow_downgrade (codes "allowdowngrade")
    ∷ flag_word f.allow_name_change (codes "allownamechange")
    ∷ flag_word f.allow_arch_change (codes "allowarchchange")
    ∷ flag_word f.allow_vendor_change (codes "allowvendorchange")
    ∷ flag_word f.allow_uninstall (codes "allowuninstall")
    ∷ flag_word f.ignore_recommended (codes "ignorerecommended")
    ∷ flag_word f.no_infarch_check (codes "noinfarchcheck")
    ∷ []

-- the names of the kinds that are asked for
abbrev pub kind_if : Bool → List ℕ → List (List ℕ)
kind_if true name = name ∷ []
kind_if false name = []

abbrev pub kind_names : Kinds → List (List ℕ)
kind_names k =
    kind_if k.transaction (codes "transaction")
    ++ (kind_if k.problems (codes "problems")
    ++ (kind_if k.order (codes "order")
    ++ (kind_if k.reason (codes "reason")
    ++ (kind_if k.userinstalled (codes "userinstalled")
    ++ kind_if k.unneeded (codes "unneeded")))))

-- texts with commas between them
abbrev pub with_commas : List (List ℕ) → List ℕ
with_commas [] = []
with_commas (name ∷ others) = name ++ flat_map (λ other. codes "," ++ other) others

abbrev pub result_lines : Kinds → Option (List (List ℕ)) → List (List ℕ)
result_lines kinds None = []
result_lines kinds (Some wanted) = joined (codes "result" ∷ with_commas (kind_names kinds) ∷ inline ∷ []) ∷ inlined wanted

-- a round: its flags, its jobs, and what is expected of its answer
abbrev pub round_lines : WrittenRound → List (List ℕ)
round_lines r = joined (codes "solverflags" ∷ flag_words r.flags) ∷ (map (λ j. codes "job " ++ j.text) r.jobs ++ result_lines r.kinds r.wanted)

-- the first round of a script
abbrev pub first_round : WrittenScript → WrittenRound
first_round s = record { flags = s.task.flags; jobs = s.task.jobs; kinds = s.kinds; wanted = s.wanted }

-- the lines of a script, and its text
abbrev pub lines_of_script : WrittenScript → List (List ℕ)
lines_of_script s =
    universe_lines s.task
    ++ (map (λ c. joined (codes "evrcmp" ∷ c.left ∷ comparison_text c.op ∷ c.right ∷ [])) s.checks
    ++ (round_lines (first_round s)
    ++ flat_map (λ r. codes "nextjob" ∷ round_lines r) s.later))

abbrev pub text_in_parts : WrittenScript → List ℕ
text_in_parts s = ended_lines (lines_of_script s)
