-- What deciding gives: sets by the questions of a task, and refutations.
use Rattle.std.specs.Prelude.{◌≡◌, ℕ, Bool, true, List, flat_map, length, nat_lt, ◌&&◌}
use Rattle.std.specs.List.{list_all}
use Rattle.solv_pool.specs.Clauses.{rule_clauses}
use Rattle.solv_pool.specs.Propagation.{is_fact}
use Rattle.solv_pool.specs.RuleMeaning.{HardRule, meets_rule}
use Rattle.solv_derive.specs.Leaves.{leaves}
use Rattle.solv_derive.specs.Logs.{is_good_log}
use Rattle.solv_derive.specs.Range.{steps_over}
use Rattle.solv_derive.specs.declared.logs.Log.{Log}
use Rattle.solv_trail.specs.Asked.{set_of}
use Rattle.solv_trail.specs.Propagated.{in_use}
use Rattle.solv_core.specs.Cores.{CoreOf}
use Rattle.solv_core.specs.GoodTrails.{IsGoodTrail, facts_of}
use Rattle.solv_core.specs.declared.verdicts.Trail.{Trail}
use Rattle.solv_questions.specs.Questions.{Request, rules_of, enabled_from, asks}

module _ (r : Request) (enabled : List Bool) where
  -- the rules that are enabled
  abbrev pub rules_on : List HardRule
  rules_on = enabled_from enabled 0 (rules_of r)

  -- the set meets each of them
  abbrev pub meets_all : (ℕ → Bool) → Bool
  meets_all set = list_all (λ x. meets_rule r.catalog x set) rules_on

  -- each package of the trail follows, or is the first possible candidate of the first open question; and its set meets each enabled rule
  pub record IsSolution (trail : Trail) : Type 0 where
    pub good : IsGoodTrail (length r.catalog.universe.packages) (flat_map (rule_clauses r.catalog) rules_on) (λ known. asks r known enabled) trail.events
    pub meets : meets_all (set_of (is_fact (facts_of trail.events))) ≡ true

  -- the log is good and names packages, rests on enabled rules alone, and no set that holds the system meets them
  pub record IsRefuted (core : CoreOf) (log : Log) : Type 0 where
    pub good : is_good_log core.clauses log.steps ≡ true
    pub over : steps_over core.packages log.steps ≡ true
    pub rests : list_all (λ rule. nat_lt rule (length core.clauses) && in_use core.owners enabled rule) (leaves log.steps) ≡ true
    pub none : (set : ℕ → Bool) → set 0 ≡ true → meets_all set ≡ true → ⊥
