-- A script as one text: its repositories with their packages, the system, the disabled packages, the namespaces, the comparisons, and its rounds.
use Rattle.std.specs.Prelude.{ℕ, ◌==◌, List, [], ◌∷◌, ◌++◌, map, flat_map, filter, length, codes, option_to_list, if◌then◌else◌}
use Rattle.std.specs.Fmt.{signed_decimal}
use Rattle.std.specs.List.{enumerate_from, items_where_true, join_with_byte}
use Rattle.std.specs.Option.{option_map_or}
use Rattle.solv_io.specs.Lines.{ended_lines}
use Rattle.solv_deps.specs.Canonical.{comparison_text}
use Rattle.solv_pool.specs.Written.{WrittenTask, WrittenRepo, WrittenPackage}
use Rattle.solv_pool.specs.declared.tasks.Flags.{Flags}
use Rattle.solv_commands.specs.SolverFlags.{solver_switches}
use Rattle.solv_script.specs.Grammar.{inline}
use Rattle.solv_script.specs.Reads.{WrittenScript, WrittenRound}
use Rattle.solv_script.specs.Results.{kind_switches}
use Rattle.solv_script.specs.Rows.{arch_text}
use Rattle.solv_script.specs.States.{repo_name, text_of, text_of_number}
use Rattle.solv_script.specs.declared.scripts.Kinds.{Kinds}
use Rattle.solv_io.specs.JoinedWords.{joined}
use Rattle.solv_writing.specs.TagLines.{package_lines}

-- lines that stand in the script itself
abbrev pub inlined : List (List ℕ) → List (List ℕ)
inlined lines = map (λ line. codes "#>" ++ line) lines

-- a repository with these packages, which stand in the script itself
abbrev pub repository_lines : WrittenRepo → List WrittenPackage → List (List ℕ)
repository_lines r packages =
    joined (codes "repo" ∷ r.name ∷ signed_decimal r.priority ∷ (if length packages == 0 then codes "empty" ∷ [] else codes "testtags" ∷ inline ∷ []))
    ∷ inlined (flat_map package_lines packages)

-- the lines on the universe: each repository with the packages of its number, the system, the disabled packages, and the namespaces
abbrev pub universe_lines : WrittenTask → List (List ℕ)
universe_lines task =
    flat_map (λ r. repository_lines r.1 (filter (λ a. a.repo == r.0) task.packages)) (enumerate_from 0 task.repos)
    ++ (map (λ arch. joined (codes "system" ∷ arch_text arch ∷ codes "rpm" ∷ map (repo_name task) (option_to_list task.installed))) (option_to_list task.arch)
    ++ (map (λ a. joined (codes "disable" ∷ codes "pkg" ∷ text_of task a ∷ [])) (items_where_true task.disabled task.packages)
    ++ map (λ n. joined (codes "namespace" ∷ n.0 ∷ map (text_of_number task) n.1)) task.namespaces))

-- all flags, with `!` before those that are off
abbrev pub flag_words : Flags → List (List ℕ)
flag_words flags = map (λ switch. if switch.is_on flags then switch.name else codes "!" ++ switch.name) solver_switches

-- the names of the kinds that are asked for, with commas (44) between them
abbrev pub kind_word : Kinds → List ℕ
kind_word kinds = join_with_byte 44 (map (λ switch. switch.name) (filter (λ switch. switch.is_on kinds) kind_switches))

-- a round: its flags, its jobs, and what is expected of its answer, if a `result` line stands in it
abbrev pub round_lines : WrittenRound → List (List ℕ)
round_lines r =
    joined (codes "solverflags" ∷ flag_words r.flags)
    ∷ (map (λ j. codes "job " ++ j.text) r.jobs
    ++ option_map_or (λ wanted. joined (codes "result" ∷ kind_word r.kinds ∷ inline ∷ []) ∷ inlined wanted) r.wanted [])

-- the text of a script, whose first round stands in its task and beside it
abbrev pub text_of_script : WrittenScript → List ℕ
text_of_script s = ended_lines (
    universe_lines s.task
    ++ (map (λ c. joined (codes "evrcmp" ∷ c.left ∷ comparison_text c.op ∷ c.right ∷ [])) s.checks
    ++ (round_lines (record { flags = s.task.flags; jobs = s.task.jobs; kinds = s.kinds; wanted = s.wanted })
    ++ flat_map (λ r. codes "nextjob" ∷ round_lines r) s.later)))
