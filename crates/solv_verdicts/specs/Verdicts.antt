-- What is said of a proof.
use Rattle.std.specs.Prelude.{ℕ, zero, suc, ◌≡◌, nat_lt, Bool, true, List, Option, Some, None, IsSomeAnd, flat_map, length, slice_get, if◌then◌else◌}
use Rattle.std.specs.List.{list_all}
use Rattle.solv_derive.specs.Logs.{checked}
use Rattle.solv_derive.specs.declared.logs.Checked.{Checked}
use Rattle.solv_derive.specs.declared.logs.Checked.TheVariants.{Yes as GoodLog, No as BadStep}
use Rattle.solv_pool.specs.Catalog.{Catalog, catalog_of}
use Rattle.solv_pool.specs.Clauses.{rule_clauses}
use Rattle.solv_pool.specs.HardRules.{hard_rules}
use Rattle.solv_pool.specs.RuleMeaning.{HardRule}
use Rattle.solv_pool.specs.Words.{is_among}
use Rattle.solv_pool.specs.declared.tasks.Task.{Task}
use Rattle.solv_proof.specs.declared.kinds.Proof.{Proof}
use Rattle.solv_remedy.specs.Problems.{rested_on, meets_listed}
use Rattle.solv_verdicts.specs.declared.verdicts.Verdict.{Verdict}
use Rattle.solv_verdicts.specs.declared.verdicts.Verdict.TheVariants.{Yes, NoRound, NoRules, NoStep}

-- each number is one of others
abbrev pub are_among : List ℕ → List ℕ → Bool
are_among others numbers = list_all (is_among others) numbers

module _ (catalog : Catalog) (rules : List HardRule) where
  -- each listed place has a rule
  abbrev pub are_there : List ℕ → Bool
  are_there places = list_all (λ place. nat_lt place (length rules)) places

  -- by what the check of its log says: the log is good, and the rules that it rests on are listed; or they are not; or a step is bad
  abbrev pub judged : Proof → Checked → Verdict
  judged p GoodLog = if are_among p.rules (rested_on catalog rules p.log.steps) then Yes else NoRules
  judged p (BadStep n) = NoStep n

  -- what is said of a proof over some hard rules: a place that no rule has is reported before the log is checked, over the clauses of all
  -- rules
  abbrev pub verdict_on : Proof → Verdict
  verdict_on p = if are_there p.rules then judged p (checked (flat_map (rule_clauses catalog) rules) p.log.steps) else NoRules

-- no set that holds the system meets the hard rules of a task that a proof lists
abbrev pub NoSetMeets : Task → Proof → Type 0
NoSetMeets task p = (set : ℕ → Bool) → set 0 ≡ true → meets_listed (catalog_of task) (hard_rules task) p.rules set ≡ true → ⊥

-- what a list has for a round, where rounds are numbered from 1
abbrev pub of_round : {T : Type 0} → List T → ℕ → Option T
of_round each zero = None
of_round each (suc n) = slice_get each n

-- what is said of a proof against the tasks of rounds: that there is none of its number is reported first
abbrev pub verdict_of : List Task → Proof → Verdict
verdict_of tasks p = elim (of_round tasks p.round) [ None ↦ NoRound | Some task ↦ verdict_on (catalog_of task) (hard_rules task) p ]

-- a proof's round is there, and no set that holds the system meets the hard rules of it that the proof lists
abbrev pub NoSetMeetsRound : List Task → Proof → Type 0
NoSetMeetsRound tasks p = IsSomeAnd (of_round tasks p.round) (λ task. NoSetMeets task p)
