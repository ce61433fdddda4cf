-- Rules, as C lays them out.
use Rattle.std.specs.Prelude.{ℕ, List, [], Option, slice_get}
use Rattle.std.specs.Option.{option_map}
use Rattle.solv_pool.specs.HardRules.{hard_rules}
use Rattle.solv_pool.specs.RuleMeaning.{HardRule, not_installable, req, con, rich_con, obs, same, infarch, update, dup, feature, install, erase, lock, best_job, best_update}
use Rattle.solv_solved.specs.declared.outcomes.Held.{Held}
use Rattle.solv_solved.specs.declared.outcomes.Held.TheVariants.{Answered, Refused, Open}
use Rattle.solv_solved.specs.declared.rule_row.RuleRow.{RuleRow}

-- a rule of a kind that names nothing
abbrev pub of_kind : ℕ → RuleRow
of_kind kind = record { kind = kind; pack = 0; dep = 0; other = 0; job = 0 }

-- a rule by its kind, the package that it is about, that package's dependency, the other package, and the job that asks for it; what its kind has not is 0
abbrev pub rule_row : HardRule → RuleRow
rule_row (not_installable p) = record (of_kind 0) { pack = p }
rule_row (req p d) = record (of_kind 1) { pack = p; dep = d }
rule_row (con p d q) = record (of_kind 2) { pack = p; dep = d; other = q }
rule_row (rich_con p d) = record (of_kind 3) { pack = p; dep = d }
rule_row (obs p d q) = record (of_kind 4) { pack = p; dep = d; other = q }
rule_row (same p q) = record (of_kind 5) { pack = p; other = q }
rule_row (infarch p) = record (of_kind 6) { pack = p }
rule_row (update p xs) = record (of_kind 7) { pack = p }
rule_row (dup p xs) = record (of_kind 8) { pack = p }
rule_row (feature p xs) = record (of_kind 9) { pack = p }
rule_row (install j xs) = record (of_kind 10) { job = j }
rule_row (erase j xs) = record (of_kind 11) { job = j }
rule_row (lock j xs) = record (of_kind 12) { job = j }
rule_row (best_job j xs) = record (of_kind 13) { job = j }
rule_row (best_update j p xs) = record (of_kind 14) { pack = p; job = j }

-- the packages of which a rule asks that one is in, or none, or that each is as installed; the first seven kinds have none
abbrev pub rule_packs : HardRule → List ℕ
rule_packs (update p xs) = xs
rule_packs (dup p xs) = xs
rule_packs (feature p xs) = xs
rule_packs (install j xs) = xs
rule_packs (erase j xs) = xs
rule_packs (lock j xs) = xs
rule_packs (best_job j xs) = xs
rule_packs (best_update j p xs) = xs
rule_packs _ = []

-- the hard rules of what is held; a refusal and a task without an answer have none
abbrev pub rules_of : Held → List HardRule
rules_of (Answered solved) = hard_rules solved.script.task
rules_of (Refused due) = []
rules_of (Open opened) = []

-- the rule of a number, from 0 on, and its packages
abbrev pub rule_of : Held → ℕ → Option RuleRow
rule_of held rule = option_map rule_row (slice_get (rules_of held) rule)

abbrev pub packs_of_rule : Held → ℕ → Option (List ℕ)
packs_of_rule held rule = option_map rule_packs (slice_get (rules_of held) rule)
