-- What is said of a rule.
use Rattle.std.specs.Prelude.{ℕ, List, [], slice_get}
use Rattle.std.specs.Option.{option_map_or}
use Rattle.solv_pool.specs.Prelude.{rule_with}
use Rattle.solv_pool.specs.declared.hard_rules.Rules.{Rules}
use Rattle.solv_pool.specs.declared.tasks.Task.{Task}
use Rattle.solv_lines.specs.RuleTexts.{text_of_rule}

module _ (task : Task) where
  -- the text of the rule at a place; a place after the last one has none
  abbrev pub rule_text_at : Rules → ℕ → List ℕ
  rule_text_at rules place = option_map_or (λ r. text_of_rule task (rule_with rules.sets r)) (slice_get rules.list place) []
