-- What is printed for an answer.
use Rattle.std.specs.Prelude.{ℕ, Bool, ◌||◌, ◌==◌, List, [], ◌∷◌, ◌++◌, map, flat_map, length, codes, slice_get, None, Some, is_none, if◌then◌else◌}
use Rattle.std.specs.Fmt.{decimal}
use Rattle.std.specs.List.{enumerate_from, list_all, zip}
use Rattle.std.specs.Option.{option_map_or}
use Rattle.solv_pool.specs.Catalog.{catalog_of}
use Rattle.solv_pool.specs.HardRules.{hard_rules}
use Rattle.solv_pool.specs.RuleMeaning.{HardRule}
use Rattle.solv_pool.specs.Words.{when}
use Rattle.solv_pool.specs.declared.tasks.Task.{Task}
use Rattle.solv_script.specs.Rounds.{Turn, turns}
use Rattle.solv_script.specs.declared.scripts.Kinds.{Kinds}
use Rattle.solv_script.specs.declared.scripts.Script.{Script}
use Rattle.solv_answers.specs.Answers.{is_spent}
use Rattle.solv_answers.specs.declared.answers.Answer.{Answer}
use Rattle.solv_answers.specs.declared.answers.Answer.TheVariants.{Transaction, Problems, Spent}
use Rattle.solv_remedy.specs.declared.problems.Problem.{Problem}
use Rattle.solv_lines.specs.Comparing.{missing_lines}
use Rattle.solv_lines.specs.LineSets.{line_set}
use Rattle.solv_lines.specs.ResultLines.{solution_line, solved_lines}
use Rattle.solv_lines.specs.RuleTexts.{text_of_rule}
use Rattle.solv_lines.specs.SolutionTexts.{solution_texts}
use Rattle.solv_io.specs.Lines.{ended_lines}
use Rattle.solv_run.specs.Checks.{false_lines}

module _ (task : Task) (rules : List HardRule) where
  -- the lines of a problem: of the rules that it lists, by their numbers, and of its solutions, which are numbered from 1, one for each thing that a solution does
  abbrev pub problem_lines : ℕ → Problem → List (List ℕ)
  problem_lines number problem =
      map (λ rule. codes "problem " ++ (decimal number ++ (codes " info " ++ option_map_or (text_of_rule task) (slice_get rules rule) []))) problem.rules
      ++ flat_map (λ x. map (solution_line number x.0) (solution_texts task rules x.1.dropped x.1.set)) (enumerate_from 1 problem.solutions)

-- the result lines of an answer, of the kinds that are asked for: those of its changes, their order, the reasons of what comes, and who needs its packages; or those of its problems,
-- which are numbered from 1, and name rules by their numbers among the hard rules
abbrev pub answer_lines : Task → Kinds → Answer → List (List ℕ)
answer_lines task kinds (Transaction trail set made ordered) = solved_lines (catalog_of task) task.jobs kinds made ordered trail.events set
answer_lines task kinds (Problems problems) = when kinds.problems (flat_map (λ x. problem_lines task (hard_rules task) x.0 x.1) (enumerate_from 1 problems))
answer_lines task kinds Spent = []

-- the result lines of an answer to a round, sorted by bytes, each once
abbrev pub told_lines : Turn → Answer → List (List ℕ)
told_lines turn answer = line_set (answer_lines turn.task turn.kinds answer)

-- how lines differ from those that are wanted: `-` and each that is missing, and then `+` and each that is more
abbrev pub differing_lines : List (List ℕ) → List (List ℕ) → List (List ℕ)
differing_lines wanted given = map (λ line. codes "-" ++ line) (missing_lines wanted given) ++ map (λ line. codes "+" ++ line) (missing_lines given wanted)

-- how the result lines of an answer differ from those that the round expects; of a spent budget nothing is said
abbrev pub differences : Turn → Answer → List (List ℕ)
differences turn answer = if is_spent answer then [] else elim turn.wanted [ None ↦ [] | Some wanted ↦ differing_lines (line_set wanted) (told_lines turn answer) ]

-- they do not differ in any round that has an answer
abbrev pub are_as_wanted : List Turn → List Answer → Bool
are_as_wanted turns answers = list_all (λ x. length (differences x.0 x.1) == 0) (zip turns answers)

-- the lines of a round: its result lines, where they are asked for or the round says of none what it expects; and how they differ from those that it expects
abbrev pub round_lines : Bool → Turn → Answer → List (List ℕ)
round_lines shows turn answer = when (shows || is_none turn.wanted) (told_lines turn answer) ++ differences turn answer

-- the lines of the rounds that have answers, with `nextjob` between two
abbrev pub rounds_lines : Bool → List Turn → List Answer → List (List ℕ)
rounds_lines shows (turn ∷ turns) (answer ∷ answers) = round_lines shows turn answer ++ flat_map (λ x. codes "nextjob" ∷ round_lines shows x.0 x.1) (zip turns answers)
rounds_lines shows turns answers = []

-- what is printed: the comparisons that are false, and the lines of the rounds that were begun
abbrev pub printed : Bool → Script → List Answer → List ℕ
printed shows script answers = ended_lines (false_lines script.checks ++ rounds_lines shows (turns script) answers)
