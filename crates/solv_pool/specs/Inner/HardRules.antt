-- Parts of the hard rules, kind by kind.
use Rattle.std.specs.Prelude.{ℕ, Bool, length, nat_lt, not, ◌&&◌, ◌||◌, List, [], ◌∷◌, map, filter}
use Rattle.std.specs.Option.{option_map_or}
use Rattle.std.specs.List.{list_all, enumerate_from}
use Rattle.solv_base.specs.Dependency.{package_wise}
use Rattle.solv_pool.specs.Words.{when}
use Rattle.solv_pool.specs.Catalog.{Catalog, packages, members, package_at, dependency, is_installed, same_name}
use Rattle.solv_pool.specs.Installable.{is_installable}
use Rattle.solv_pool.specs.Selections.{selects}
use Rattle.solv_pool.specs.JobMarks.{marked}
use Rattle.solv_pool.specs.RuleMeaning.{HardRule, not_installable, req, rich_con, same, best_update}
use Rattle.solv_pool.specs.Best.{best}
use Rattle.solv_pool.specs.HardRules.{counted_requirements, is_conflicting, counted_rich_conflicts, is_obsoleted, is_later_namesake, rules_asked_by, is_inferior, is_asked_exactly, update_candidates}
use Rattle.solv_pool.specs.declared.packages.Package.{Package}
use Rattle.solv_pool.specs.declared.tasks.Flags.{Flags}
use Rattle.solv_pool.specs.declared.jobs.Job.{Job}
use Rattle.solv_pool.specs.declared.jobs.Choice.{Choice}
use Rattle.solv_pool.specs.declared.job_marks.Marks.{Marks}

-- a package that is not installable is out
abbrev pub not_installable_rules : Catalog → ℕ → List HardRule
not_installable_rules catalog p = when (not (is_installable catalog p)) (not_installable p ∷ [])

-- the conflicts that a package meets alone or not at all
abbrev pub package_wise_conflicts : Catalog → Package → List ℕ
package_wise_conflicts catalog a = filter (λ d. package_wise (dependency catalog d)) a.conflicts

module _ (catalog : Catalog) (marks : Marks) where
  -- the requirements of p that count, as rules
  abbrev pub requirement_rules : ℕ → Package → List HardRule
  requirement_rules p a = map (λ need. req p need.dep) (counted_requirements catalog marks p a)

  -- the members that meet a conflict, ascending
  abbrev pub conflicting : ℕ → ℕ → List ℕ
  conflicting p d = filter (is_conflicting catalog marks p d) (members catalog)

  -- the conflicts that are not package-wise, as rules
  abbrev pub rich_conflict_rules : ℕ → Package → List HardRule
  rich_conflict_rules p a = map (rich_con p) (counted_rich_conflicts catalog marks p a)

  -- the packages that an obsoletion covers, ascending
  abbrev pub obsoleted : ℕ → ℕ → List ℕ
  obsoleted p d = filter (is_obsoleted catalog marks p d) (packages catalog)

  -- the later packages of a name, ascending
  abbrev pub later_namesakes : ℕ → List ℕ
  later_namesakes p = filter (is_later_namesake catalog marks p) (packages catalog)

  -- each as a rule
  abbrev pub same_name_rules : ℕ → List HardRule
  same_name_rules p = map (same p) (later_namesakes p)

  -- what a package asks for, by its number
  abbrev pub rules_of_package : ℕ → List HardRule
  rules_of_package p = option_map_or (rules_asked_by catalog marks p) (package_at catalog p) []

-- what is not installed and inferior, ascending
abbrev pub inferior_packages : Catalog → Flags → List ℕ
inferior_packages catalog flags = filter (λ p. not (is_installed catalog p) && is_inferior catalog flags p) (packages catalog)

-- at least one package, and each is of p's name
abbrev pub are_of_name : Catalog → ℕ → List ℕ → Bool
are_of_name catalog p xs = nat_lt 0 (length xs) && list_all (same_name catalog p) xs

-- p has an update rule, where it is kept
abbrev pub has_update_rule : Catalog → List Job → Marks → ℕ → Bool
has_update_rule catalog jobs marks p = marked marks.multiversion p || not (is_asked_exactly catalog jobs marks p)

-- the jobs by their places
abbrev pub numbered_jobs : List Job → List (ℕ × Job)
numbered_jobs jobs = enumerate_from 0 jobs

-- the installed packages that a choice selects
abbrev pub selected_installed : Catalog → Choice → List ℕ
selected_installed catalog choice = filter (λ p. is_installed catalog p && selects catalog choice p) (packages catalog)

-- the best of p and what may take its place
abbrev pub best_update_rule : Catalog → Flags → Marks → ℕ → ℕ → HardRule
best_update_rule catalog flags marks j p = best_update j p (best catalog (update_candidates catalog flags marks p))
