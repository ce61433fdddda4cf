-- What packages ask of each other, in a set that meets the hard rules.
use Rattle.std.specs.Prelude.{◌≡◌, ℕ, Bool, true, false, ◌&&◌, ◌||◌, ◌==◌, Some, Contains}
use Rattle.solv_base.specs.Dependency.{package_wise}
use Rattle.solv_pool.specs.Words.{is_among}
use Rattle.solv_pool.specs.Catalog.{catalog_of, members, package_at, dependency, is_installed, same_name}
use Rattle.solv_pool.specs.Holding.{holds, leaving_out}
use Rattle.solv_pool.specs.JobMarks.{marks_of}
use Rattle.solv_pool.specs.Counting.{requirement_counts, rich_conflict_counts}
use Rattle.solv_pool.specs.Updates.{coexist}
use Rattle.solv_pool.specs.HardRules.{is_conflicting, is_obsoleted}
use Rattle.solv_pool.specs.declared.packages.Package.{Package}
use Rattle.solv_pool.specs.declared.packages.Need.{Need}
use Rattle.solv_pool.specs.declared.tasks.Task.{Task}
use Rattle.solv_answers.specs.Answers.{meets_hard_rules}

-- p is a package of a set that meets the hard rules
pub record IsInGoodSet (task : Task) (set : ℕ → Bool) (p : ℕ) (a : Package) : Type 0 where
  pub meets : meets_hard_rules task set ≡ true
  pub is : package_at (catalog_of task) p ≡ Some a
  pub inside : set p ≡ true

-- each requirement of a package of the set holds in the set; of an installed package that is not verified, each that held before
abbrev pub RequirementsHold : Type 0
RequirementsHold = (task : Task) (set : ℕ → Bool) (p : ℕ) (a : Package) (need : Need) → IsInGoodSet task set p a → Contains a.requires_ need
    → requirement_counts (catalog_of task) (marks_of task) p need.dep ≡ true → holds (catalog_of task) (dependency (catalog_of task) need.dep) set ≡ true

-- no package of the set has a conflict that counts with another member of it, a package or the system
abbrev pub ConflictsAreKept : Type 0
ConflictsAreKept = (task : Task) (set : ℕ → Bool) (p q d : ℕ) (a : Package) → IsInGoodSet task set p a → Contains a.conflicts d
    → package_wise (dependency (catalog_of task) d) ≡ true → is_among (members (catalog_of task)) q ≡ true
    → is_conflicting (catalog_of task) (marks_of task) p d q ≡ true → set q ≡ false

-- a conflict with several packages together, where it counts, does not hold among the others
abbrev pub RichConflictsAreKept : Type 0
RichConflictsAreKept = (task : Task) (set : ℕ → Bool) (p d : ℕ) (a : Package) → IsInGoodSet task set p a → Contains a.conflicts d
    → package_wise (dependency (catalog_of task) d) ≡ false → rich_conflict_counts (catalog_of task) (marks_of task) p d ≡ true
    → holds (catalog_of task) (dependency (catalog_of task) d) (leaving_out (Some p) set) ≡ false

-- no package of the set obsoletes another one of it, where that counts
abbrev pub ObsoletionsAreKept : Type 0
ObsoletionsAreKept = (task : Task) (set : ℕ → Bool) (p q d : ℕ) (a : Package) → IsInGoodSet task set p a → Contains a.obsoletes d
    → is_obsoleted (catalog_of task) (marks_of task) p d q ≡ true → set q ≡ false

-- two packages of one name in the set are one, or both are multiversion, or both were installed
abbrev pub NamesAreKept : Type 0
NamesAreKept = (task : Task) (set : ℕ → Bool) (p q : ℕ) → meets_hard_rules task set ≡ true → same_name (catalog_of task) p q ≡ true
    → set p ≡ true → set q ≡ true
    → ((p == q) || (coexist (catalog_of task) (marks_of task) p q || (is_installed (catalog_of task) p && is_installed (catalog_of task) q))) ≡ true
