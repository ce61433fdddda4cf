-- Short ways to read what the definitions say of a task.
use Rattle.std.specs.Prelude.{ℕ, ℤ, pos, neg_ℤ, Bool, true, false, List, Some, None, filter, flat_map}
use Rattle.std.specs.List.{list_all}
use Rattle.std.specs.declared.cmp.Ordering.{Ordering}
use Rattle.solv_base.specs.Dependency.{Dep}
use Rattle.solv_pool.specs.Words.{is_among}
use Rattle.solv_pool.specs.Catalog.{catalog_of, dependency, packages}
use Rattle.solv_pool.specs.Holding.{holds}
use Rattle.solv_pool.specs.JobMarks.{marks_of}
use Rattle.solv_pool.specs.RuleMeaning.{HardRule, meets_rule}
use Rattle.solv_pool.specs.Best.{best}
use Rattle.solv_pool.specs.Updates.{feature_set, dup_set}
use Rattle.solv_pool.specs.Inner.Updates.{legal_set}
use Rattle.solv_pool.specs.HardRules.{package_rules, hard_rules}
use Rattle.solv_pool.specs.Clauses.{dependency_clauses, rule_clauses}
use Rattle.solv_pool.specs.declared.tasks.Task.{Task}
use Rattle.solv_policy.specs.Policy.{policy_cmp, by_policy}
use Rattle.solv_policy.specs.declared.policy.Asked.{Asked}
use Rattle.solv_policy.specs.declared.policy.Asked.TheVariants.{Other}
use Rattle.solv_questions.specs.Candidates.{may_break}

-- the literal "package p is in"
abbrev pub yes : ℕ → ℤ
yes p = pos p

-- the literal "package p is out"
abbrev pub no : ℕ → ℤ
no p = neg_ℤ (pos p)

-- a relation of the task as a dependency
abbrev pub relation : Task → ℕ → Dep ℕ
relation task d = dependency (catalog_of task) d

-- the relation holds in the set of these numbers
abbrev pub holds_in : Task → ℕ → List ℕ → Bool
holds_in task d set = holds (catalog_of task) (relation task d) (is_among set)

-- the set of these numbers meets the rule
abbrev pub meets_in : Task → HardRule → List ℕ → Bool
meets_in task r set = meets_rule (catalog_of task) r (is_among set)

-- it meets all hard rules
abbrev pub meets_all : Task → List ℕ → Bool
meets_all task set = list_all (λ r. meets_in task r set) (hard_rules task)

-- the rules that packages ask for
abbrev pub package_rules_of : Task → List HardRule
package_rules_of task = package_rules (catalog_of task) (marks_of task)

-- the clauses of a rule
abbrev pub clauses_in : Task → HardRule → List (List ℤ)
clauses_in task r = rule_clauses (catalog_of task) r

-- the clauses of all hard rules
abbrev pub all_clauses : Task → List (List ℤ)
all_clauses task = flat_map (clauses_in task) (hard_rules task)

-- the clauses that say that a relation holds
abbrev pub clauses_for : Task → ℕ → List (List ℤ)
clauses_for task d = dependency_clauses (catalog_of task) None true (relation task d)

-- the clauses that say that it does not
abbrev pub clauses_against : Task → ℕ → List (List ℤ)
clauses_against task d = dependency_clauses (catalog_of task) None false (relation task d)

-- what may take the place of a package, were every change allowed
abbrev pub features_in : Task → ℕ → List ℕ
features_in task p = feature_set (catalog_of task) (marks_of task) p

-- what may take its place as the flags allow
abbrev pub legals_in : Task → ℕ → List ℕ
legals_in task p = legal_set (catalog_of task) task.flags (marks_of task) p

-- what a distribution upgrade puts there
abbrev pub dups_in : Task → ℕ → List ℕ
dups_in task p = dup_set (catalog_of task) (marks_of task) p

-- the best of a list
abbrev pub best_in : Task → List ℕ → List ℕ
best_in task list = best (catalog_of task) list

-- the packages that may be taken against a conflict of p, in the set of these numbers, where none is known out
abbrev pub taken_against : Task → ℕ → ℕ → List ℕ → List ℕ
taken_against task p d set = filter (may_break (catalog_of task) (λ q. false) (Some p) (is_among set) (relation task d)) (packages (catalog_of task))

-- the order of two candidates of a list
abbrev pub policy_in : Task → Asked → List ℕ → ℕ → ℕ → Ordering
policy_in task asked list a b = policy_cmp (catalog_of task) (marks_of task) asked list a b

-- the candidates of a question, in their order
abbrev pub ordered_in : Task → List ℕ → List ℕ
ordered_in task list = by_policy (catalog_of task) (marks_of task) Other list
