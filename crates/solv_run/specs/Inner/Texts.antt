-- What is printed for a rule, for problems and of a round, by itself. Inner contracts alone speak of it.
use Rattle.std.specs.Prelude.{ℕ, Bool, ◌==◌, List, [], flat_map, length, slice_get}
use Rattle.std.specs.List.{enumerate_from}
use Rattle.std.specs.Option.{option_map_or}
use Rattle.solv_pool.specs.Prelude.{HardRule, when}
use Rattle.solv_pool.specs.declared.tasks.Task.{Task}
use Rattle.solv_script.specs.Rounds.{Turn}
use Rattle.solv_script.specs.declared.scripts.Kinds.{Kinds}
use Rattle.solv_answers.specs.declared.answers.Answer.{Answer}
use Rattle.solv_remedy.specs.declared.problems.Problem.{Problem}
use Rattle.solv_lines.specs.RuleTexts.{text_of_rule}
use Rattle.solv_run.specs.Texts.{differences, problem_lines}

-- the text of the rule that has this number
abbrev pub rule_text : Task → List HardRule → ℕ → List ℕ
rule_text task rules number = option_map_or (text_of_rule task) (slice_get rules number) []

-- the lines of problems, which are numbered from 1, where they are asked for
abbrev pub problems_lines : Task → List HardRule → Kinds → List Problem → List (List ℕ)
problems_lines task rules kinds problems = when kinds.problems (flat_map (λ x. problem_lines task rules x.0 x.1) (enumerate_from 1 problems))

-- the result lines of an answer are as the round expects them
abbrev pub is_as_wanted : Turn → Answer → Bool
is_as_wanted turn answer = length (differences turn answer) == 0
