-- Clauses at their places among all, and what was learnt over them.
use Rattle.std.specs.Prelude.{ℕ, zero, suc, ℤ, ◌≡◌, ◌+◌, ◌-◌, ◌++◌, Bool, true, not, ◌&&◌, List, [], ◌∷◌, filter, map, length, nat_lt, replicate, slice_get, Option, Some, if◌then◌else◌}
use Rattle.std.specs.List.{list_all}
use Rattle.solv_pool.specs.Prelude.{Catalog, catalog_of, hard_rules, marked, rule_clauses, HardRule, req}
use Rattle.solv_pool.specs.declared.hard_rules.Rule.{Rule}
use Rattle.solv_pool.specs.declared.tasks.Task.{Task}
use Rattle.solv_pool.specs.Range.{names_package, are_over}
use Rattle.solv_derive.specs.Logs.{is_good_log}
use Rattle.solv_derive.specs.declared.logs.Hint.{Hint}
use Rattle.solv_derive.specs.declared.logs.Hint.TheVariants as hint
use Rattle.solv_derive.specs.declared.logs.Log.{Log}
use Rattle.solv_derive.specs.declared.logs.Step.{Step}
use Rattle.solv_trail.specs.Asked.{is_enabled, enabled_clauses}
use Rattle.solv_trail.specs.declared.questions.Ask.{Ask}
use Rattle.solv_core.specs.Ledgers.{IsGoodLedger}
use Rattle.solv_core.specs.declared.ledger.Entry.{Entry}
use Rattle.solv_core.specs.declared.ledger.Ledger.{Ledger}
use Rattle.solv_core.specs.declared.ledger.Run.{Run}
use Rattle.solv_remedy.specs.declared.problems.Problem.{Problem}
use Rattle.solv_remedy.specs.declared.problems.Solution.{Solution}
use Rattle.solv_over.specs.Inner.Widened.{says_neither, AreBeside}
use Rattle.solv_over.specs.Inner.Trails.{GuideAlike}
use Rattle.solv_over.specs.Inner.Sums.{clause_by, rule_by}

-- each clause has a place among all; its rule has one, too
pub record StandAt (clauses : List (List ℤ)) (owners : List ℕ) (all : List (List ℤ)) (owners_all : List ℕ) (at rule : ℕ → ℕ) : Type 0 where
  pub each : length owners ≡ length clauses
  pub clause : (k : ℕ) (c : List ℤ) → slice_get clauses k ≡ Some c → slice_get all (at k) ≡ Some c
  pub owner : (k o : ℕ) → slice_get owners k ≡ Some o → slice_get owners_all (at k) ≡ Some (rule o)

-- a rule is made, where the requirements of these packages are not
abbrev pub is_made : List Bool → HardRule → Bool
is_made left (req p d) = not (marked left p)
is_made left _ = true

-- the place of the made rule of this number among all
abbrev pub rule_among : List Bool → List HardRule → ℕ → ℕ
rule_among left [] k = k
rule_among left (x ∷ rules) zero = if is_made left x then zero else suc (rule_among left rules zero)
rule_among left (x ∷ rules) (suc k) = if is_made left x then suc (rule_among left rules k) else suc (rule_among left rules (suc k))

-- the place of the clause of this number of the made rules among those of all
abbrev pub clause_among : Catalog → List Bool → List HardRule → ℕ → ℕ
clause_among catalog left [] k = k
clause_among catalog left (x ∷ rules) k =
    let n = length (rule_clauses catalog x) in
    if is_made left x then (if nat_lt k n then k else n + clause_among catalog left rules (k - n)) else n + clause_among catalog left rules k

-- where the rules that are made stand among all, and their clauses: the made rules, which of them own their clauses, and how many rules and clauses are not made before what
-- packages, of which there are so many, ask for; and how many rules are not made
pub record PlacesOf : Type 0 where
  pub rules : List Rule
  pub owners : List ℕ
  pub count : ℕ
  pub rules_before : List ℕ
  pub clauses_before : List ℕ
  pub more : ℕ

abbrev pub rule_place : PlacesOf → ℕ → ℕ
rule_place places = rule_by places.rules places.count places.rules_before

abbrev pub clause_place : PlacesOf → ℕ → ℕ
clause_place places = clause_by places.rules places.owners places.count places.clauses_before

-- the same with this table of clauses
abbrev pub with_clauses : List ℕ → PlacesOf → PlacesOf
with_clauses table places = record places { clauses_before = table }

-- so it is among the hard rules of a task
pub record ArePlaces (task : Task) (left : List Bool) (places : PlacesOf) : Type 0 where
  pub rule : (k : ℕ) → rule_place places k ≡ rule_among left (hard_rules task) k
  pub clause : (k : ℕ) → clause_place places k ≡ clause_among (catalog_of task) left (hard_rules task) k
  pub more : places.more ≡ length (filter (λ x. not (is_made left x)) (hard_rules task))

-- flags with so many true ones before them
abbrev pub put_before : ℕ → List Bool → List Bool
put_before more on = replicate more true ++ on

module _ (at : ℕ → ℕ) where
  -- a hint at a clause names it by its place among all
  abbrev pub hint_at : Hint → Hint
  hint_at (hint.Book rule) = hint.Book (at rule)
  hint_at (hint.Step step) = hint.Step step

  abbrev pub step_at : Step → Step
  step_at step = record { clause = step.clause; hints = map hint_at step.hints }

  abbrev pub steps_at : List Step → List Step
  steps_at steps = map step_at steps

  abbrev pub log_at : Log → Log
  log_at log = record { steps = steps_at log.steps }

  abbrev pub entry_at : Entry → Entry
  entry_at e = record { run = e.run; clause = e.clause; hints = map hint_at e.hints }

-- a solution and a problem, with the rules that they list and their logs
module _ (at rule : ℕ → ℕ) where
  abbrev pub solution_at : Solution → Solution
  solution_at s = record { dropped = map rule s.dropped; set = s.set; refuted = map (log_at at) s.refuted }

  abbrev pub problem_at : Problem → Problem
  problem_at problem = record { rules = map rule problem.rules; log = log_at at problem.log; solutions = map solution_at problem.solutions }

-- a run with the rules that were enabled among all
abbrev pub run_at : (List Bool → List Bool) → Run → Run
run_at flags run = record { enabled = flags run.enabled; kept = run.kept }

abbrev pub ledger_at : (ℕ → ℕ) → (List Bool → List Bool) → Ledger → Ledger
ledger_at at flags ledger = record { budget = ledger.budget; runs = map (run_at flags) ledger.runs; entries = map (entry_at at) ledger.entries }

-- a good log over the clauses that are made is one over all
abbrev pub LogsWiden : Type 0
LogsWiden = (clauses : List (List ℤ)) (owners : List ℕ) (all : List (List ℤ)) (owners_all : List ℕ) (at rule : ℕ → ℕ) → StandAt clauses owners all owners_all at rule
    → (steps : List Step) → is_good_log clauses steps ≡ true → is_good_log all (steps_at at steps) ≡ true

-- each literal of what was learnt is of a package that is not left out
abbrev pub is_of_inside : ℕ → (ℕ → Bool) → Entry → Bool
is_of_inside count left e = list_all (λ l. names_package count l && says_neither left l) e.clause

-- one run over the clauses that are made, and over all: what is enabled there, and what is asked
pub record RunAlike (left : ℕ → Bool) (clauses : List (List ℤ)) (owners : List ℕ) (all : List (List ℤ)) (owners_all : List ℕ) (rule : ℕ → ℕ) (asks asks_all : (ℤ → Bool) → List Bool → Option Ask) (on on_all : List Bool) : Type 0 where
  pub beside : AreBeside left (enabled_clauses on clauses owners) (enabled_clauses on_all all owners_all)
  pub guide : GuideAlike left (λ known. asks known on) (λ known. asks_all known on_all)
  pub same : (k o : ℕ) → slice_get owners k ≡ Some o → is_enabled on_all (rule o) ≡ is_enabled on o

-- a good ledger over the clauses that are made is one over all, where nothing that it holds speaks of what is left out
abbrev pub LedgersWiden : Type 0
LedgersWiden = (count : ℕ) (left : ℕ → Bool) (clauses : List (List ℤ)) (owners : List ℕ) (all : List (List ℤ)) (owners_all : List ℕ) (at rule : ℕ → ℕ) (asks asks_all : (ℤ → Bool) → List Bool → Option Ask) (flags : List Bool → List Bool)
    → StandAt clauses owners all owners_all at rule → are_over count all ≡ true → (ledger : Ledger)
    → ((number : ℕ) (run : Run) → slice_get ledger.runs number ≡ Some run → RunAlike left clauses owners all owners_all rule asks asks_all run.enabled (flags run.enabled))
    → list_all (is_of_inside count left) ledger.entries ≡ true
    → IsGoodLedger clauses owners count asks ledger → IsGoodLedger all owners_all count asks_all (ledger_at at flags ledger)
