-- What the calls do that read rules of a task by numbers.
use Rattle.std.specs.Prelude.{ℕ, List, [], Option, Some, None}
use Rattle.solv_pool.specs.RuleMeaning.{HardRule}
use Rattle.solv_solved.specs.RuleRows as held
use Rattle.solv_solved.specs.declared.outcomes.Held.{Held}
use Rattle.solv_solved.specs.declared.rule_row.RuleRow.{RuleRow}

-- the hard rules, the one of a number, and the packages that it carries; where nothing is held, there are none
abbrev pub rules_of : Option Held → List HardRule
rules_of None = []
rules_of (Some kept) = held.rules_of kept

abbrev pub rule_of : Option Held → ℕ → Option RuleRow
rule_of None rule = None
rule_of (Some kept) rule = held.rule_of kept rule

abbrev pub packs_of_rule : Option Held → ℕ → Option (List ℕ)
packs_of_rule None rule = None
packs_of_rule (Some kept) rule = held.packs_of_rule kept rule
