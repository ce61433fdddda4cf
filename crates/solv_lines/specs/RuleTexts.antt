-- What is said of a rule.
use Rattle.std.specs.Prelude.{ℕ, Bool, List, [], ◌++◌, Option, Some, None, codes, flat_map, option_and_then, slice_get, if◌then◌else◌}
use Rattle.std.specs.List.{list_any}
use Rattle.std.specs.Option.{option_map_or}
use Rattle.solv_pool.specs.Prelude.{Dep, text_tree}
use Rattle.solv_pool.specs.Catalog.{Catalog, catalog_of, members, dependency}
use Rattle.solv_pool.specs.Holding.{package_meets}
use Rattle.solv_pool.specs.PackageText.{package_text}
use Rattle.solv_pool.specs.Parts.{parts}
use Rattle.solv_pool.specs.RuleMeaning.{HardRule, not_installable, req, con, rich_con, obs, same, infarch, update, dup, feature, install, best_job, best_update}
use Rattle.solv_pool.specs.declared.jobs.Choice.{Choice}
use Rattle.solv_pool.specs.declared.jobs.Choice.TheVariants.{Name, Provides}
use Rattle.solv_pool.specs.declared.tasks.Task.{Task}
use Rattle.solv_deps.specs.Canonical.{text}

module _ (catalog : Catalog) where
  -- the text of a package, and the canonical text of a relation
  abbrev pub named : ℕ → List ℕ
  named p = package_text catalog.pool catalog.universe p

  abbrev pub asked : ℕ → List ℕ
  asked d = text (text_tree catalog.pool d)

  -- a word and the texts of packages, with a space before each
  abbrev pub packs_text : List ℕ → List ℕ → List ℕ
  packs_text word packs = word ++ flat_map (λ p. codes " " ++ named p) packs

  -- some package, or the system, meets a part of the dependency
  abbrev pub has_provider : Dep ℕ → Bool
  has_provider d = list_any (λ part. list_any (package_meets catalog part) (members catalog)) (parts d)

  -- a requirement that no set can meet, or one that is met by packages which cannot be in
  abbrev pub requirement_text : ℕ → ℕ → List ℕ
  requirement_text p d =
      if has_provider (dependency catalog d)
      then codes "package " ++ (named p ++ (codes " requires " ++ (asked d ++ codes ", but none of the providers can be installed")))
      else codes "nothing provides " ++ (asked d ++ (codes " needed by " ++ named p))

-- the dependency by which a job selects
abbrev pub dependency_of : Choice → Option ℕ
dependency_of (Name d) = Some d
dependency_of (Provides d) = Some d
dependency_of _ = None

abbrev pub conflicting_requests : List ℕ
conflicting_requests = codes "conflicting requests"

module _ (task : Task) where
  -- the text of a rule; that of an install job which selects nothing is by the job's dependency, if it has one
  abbrev pub text_of_rule : HardRule → List ℕ
  text_of_rule (not_installable p) = codes "package " ++ (named (catalog_of task) p ++ codes " is not installable")
  text_of_rule (req p d) = requirement_text (catalog_of task) p d
  text_of_rule (con p d q) = codes "package " ++ (named (catalog_of task) p ++ (codes " conflicts with " ++ (asked (catalog_of task) d ++ (codes " provided by " ++ named (catalog_of task) q))))
  text_of_rule (rich_con p d) = codes "package " ++ (named (catalog_of task) p ++ (codes " conflicts with " ++ asked (catalog_of task) d))
  text_of_rule (obs p d q) = codes "package " ++ (named (catalog_of task) p ++ (codes " obsoletes " ++ (asked (catalog_of task) d ++ (codes " provided by " ++ named (catalog_of task) q))))
  text_of_rule (same p q) = codes "cannot install both " ++ (named (catalog_of task) p ++ (codes " and " ++ named (catalog_of task) q))
  text_of_rule (infarch p) = named (catalog_of task) p ++ codes " has inferior architecture"
  text_of_rule (update p xs) = codes "problem with installed package " ++ named (catalog_of task) p
  text_of_rule (dup p xs) = codes "problem with installed package " ++ named (catalog_of task) p
  text_of_rule (feature p xs) = codes "problem with installed package " ++ named (catalog_of task) p
  text_of_rule (install j []) = option_map_or (λ d. codes "nothing provides requested " ++ asked (catalog_of task) d) (option_and_then (λ job. dependency_of job.choice) (slice_get task.jobs j)) conflicting_requests
  text_of_rule (best_job j xs) = codes "cannot install the best candidate for the job"
  text_of_rule (best_update j p xs) = codes "cannot install the best update candidate for package " ++ named (catalog_of task) p
  text_of_rule _ = conflicting_requests
