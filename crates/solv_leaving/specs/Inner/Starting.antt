-- From where it is asked: the packages that may be taken by themselves, for inner contracts alone.
use Rattle.std.specs.Prelude.{◌≡◌, ℕ, ◌<◌, ◌+◌, Bool, true, not, ◌&&◌, ◌||◌, ◌==◌, List, length}
use Rattle.std.specs.List.{list_all, list_any}
use Rattle.solv_pool.specs.Prelude.{package_wise, is_among, passes, Catalog, package_at, dependency, is_installed, feature_candidates}
use Rattle.solv_pool.specs.JobKinds.{job_selects}
use Rattle.solv_pool.specs.JobKinds.{acts}
use Rattle.solv_pool.specs.declared.jobs.Action.TheVariants.{Install}
use Rattle.solv_pool.specs.declared.jobs.Job.{Job}
use Rattle.solv_pool.specs.declared.job_marks.Marks.{Marks}
use Rattle.solv_pool.specs.declared.packages.Package.{Package}
use Rattle.solv_pool.specs.declared.tasks.Flags.{Flags}
use Rattle.solv_clean.specs.Inner.Tables.{is_marked}

-- what was marked is marked, and so is each of these that has an entry
pub record AreMarked (these : ℕ → Bool) (old new : List Bool) : Type 0 where
  pub size : length new ≡ length old
  pub keeps : (q : ℕ) → is_marked old q ≡ true → is_marked new q ≡ true
  pub marks : (q : ℕ) → q < length old → these q ≡ true → is_marked new q ≡ true

module _ (catalog : Catalog) where
  -- packages meet its requirements alone
  abbrev pub is_met_alone : Package → Bool
  is_met_alone a = list_all (λ need. package_wise (dependency catalog need.dep)) a.requires_

  -- it supplements something, or packages do not meet its requirements alone
  abbrev pub stands_alone : Package → Bool
  stands_alone a = list_any (λ d. true) a.supplements || not (is_met_alone a)

  module _ (flags : Flags) (marks : Marks) where
    -- q may stand in the place of p, which is installed
    abbrev pub kept_by : ℕ → ℕ → Bool
    kept_by p q = is_installed catalog p && is_among (feature_candidates catalog flags marks p) q

    -- so it is, or q is p, which is asked for by itself
    abbrev pub starts_by : ℕ → ℕ → Bool
    starts_by p q = kept_by p q || (p == q && passes (package_at catalog p) stands_alone)

    -- what was marked is marked, and so is what starts by one of the first packages
    pub record AreStarted (count : ℕ) (old new : List Bool) : Type 0 where
      pub size : length new ≡ length old
      pub keeps : (q : ℕ) → is_marked old q ≡ true → is_marked new q ≡ true
      pub starts : (p q : ℕ) → 0 < p → p < count + 1 → q < length old → starts_by p q ≡ true → is_marked new q ≡ true

    -- the table of all packages that may be asked for by themselves
    pub record AreStarts (jobs : List Job) (table : List Bool) : Type 0 where
      pub size : length table ≡ length catalog.universe.packages + 1
      pub selected : (q : ℕ) → 0 < q → q < length table → job_selects catalog jobs (acts Install) q ≡ true → is_marked table q ≡ true
      pub starts : (p q : ℕ) → 0 < p → p < length table → q < length table → starts_by p q ≡ true → is_marked table q ≡ true
