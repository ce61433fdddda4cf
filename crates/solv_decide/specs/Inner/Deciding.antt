-- What deciding gives: sets by the questions of a task, and refutations.
use Rattle.solv_core.specs.declared.verdicts.Verdict.TheVariants as verdict
use Rattle.std.specs.Prelude.{ℕ, ℤ, Bool, List, ◌≡◌, true, flat_map, length}
use Rattle.solv_trail.specs.Inner.Asked.{KeepsLaw}
use Rattle.solv_trail.specs.Asked.{enabled_clauses}
use Rattle.solv_plan.specs.Inner.Plans.{plan_asks}
use Rattle.solv_decide.specs.Deciding.{rules_on, IsSolution, IsRefuted}
use Rattle.solv_pool.specs.Prelude.{IsWellFounded, rule_clauses, are_over}
use Rattle.solv_core.specs.Cores.{CoreOf}
use Rattle.solv_core.specs.declared.verdicts.Verdict.{Verdict}
use Rattle.solv_rules.specs.Books.{owners_from}
use Rattle.solv_questions.specs.Questions.{Request, rules_of}
use Rattle.solv_questions.specs.Inner.Law.{AsksInForm}
use Rattle.solv_plan.specs.Inner.PlanOf.{plan_of}
use Rattle.solv_plan.specs.declared.plans.Plan.{Plan}

-- the clauses of the rules that are enabled
abbrev pub clauses_on : Request → List Bool → List (List ℤ)
clauses_on r enabled = flat_map (rule_clauses r.catalog) (rules_on r enabled)

-- who asks: a plan, for so many packages
pub record Asker : Type 0 where
  pub plan : Plan
  pub packages : ℕ

-- it asks the questions of this request, and the core is over the clauses of all its rules
pub record IsAskedFor (r : Request) (asker : Asker) (core : CoreOf) : Type 0 where
  pub plan : asker.plan ≡ plan_of r
  pub packages : asker.packages ≡ length r.catalog.universe.packages
  pub formed : AsksInForm r
  pub founded : IsWellFounded r.catalog.pool.nodes
  pub clauses : core.clauses ≡ flat_map (rule_clauses r.catalog) (rules_of r)
  pub owners : core.owners ≡ owners_from r.catalog 0 (rules_of r)
  pub count : core.packages ≡ length r.catalog.universe.packages
  pub over : are_over core.packages core.clauses ≡ true

module _ (r : Request) (enabled : List Bool) where
  -- a set, or a refutation; nothing is said where the ledger is spent
  abbrev pub IsDecided : CoreOf → Verdict → Type 0
  IsDecided core (verdict.Sat trail) = IsSolution r enabled trail
  IsDecided core (verdict.Unsat log) = IsRefuted r enabled core log
  IsDecided core verdict.Spent = Unit {0}

-- the law of guides holds of it over these clauses with their owners
abbrev pub IsLawful : Asker → List (List ℤ) → List ℕ → Type 0
IsLawful asker clauses owners = (enabled : List Bool) → KeepsLaw asker.packages (enabled_clauses enabled clauses owners) (λ known. plan_asks asker.plan known enabled)
