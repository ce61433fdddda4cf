-- Packages that nothing can ask for. Of what they require no rules are made, since no set that answers a task holds them.
use Rattle.std.specs.Prelude.{ℕ, ◌≡◌, Bool, true, false, not, ◌&&◌, ◌||◌, List, [], ◌∷◌, ◌++◌, if◌then◌else◌}
use Rattle.std.specs.List.{list_all, list_any}
use Rattle.solv_pool.specs.Prelude.{Dep, and, or, if_holds, joined, under, under_else, missing, package_wise, package_meets}
use Rattle.solv_pool.specs.Words.{is_among, passes}
use Rattle.solv_pool.specs.Catalog.{Catalog, packages, package_at, dependency, is_installed}
use Rattle.solv_pool.specs.HardRules.{feature_candidates}
use Rattle.solv_pool.specs.JobKinds.{acts, job_selects}
use Rattle.solv_pool.specs.JobMarks.{marked}
use Rattle.solv_pool.specs.Needs.{asked_by, serves_package}
use Rattle.solv_pool.specs.declared.jobs.Job.{Job}
use Rattle.solv_pool.specs.declared.jobs.Action.TheVariants.{Install}
use Rattle.solv_pool.specs.declared.job_marks.Marks.{Marks}
use Rattle.solv_pool.specs.declared.tasks.Flags.{Flags}

-- whatever can be taken so that the dependency holds meets one of its parts: nothing is taken for a condition
abbrev pub is_plainly_met : {N : Type 0} → Dep N → Bool
is_plainly_met (joined and a b) = is_plainly_met a && is_plainly_met b
is_plainly_met (joined or a b) = package_wise (joined or a b) || (is_plainly_met a && is_plainly_met b)
is_plainly_met (under if_holds a b) = is_plainly_met a
is_plainly_met (under k a b) = false
is_plainly_met (under_else k a b c) = false
is_plainly_met missing = false
is_plainly_met d = true

-- the marks with these packages left out
abbrev pub leaving : Marks → List Bool → Marks
leaving marks left = record marks { left_out = left }

-- the largest package-wise pieces of a dependency, those of conditions too
abbrev pub pieces : {N : Type 0} → Dep N → List (Dep N)
pieces (joined and a b) = pieces a ++ pieces b
pieces (joined or a b) = if package_wise (joined or a b) then joined or a b ∷ [] else pieces a ++ pieces b
pieces (under k a b) = pieces a ++ pieces b
pieces (under_else k a b c) = pieces a ++ (pieces b ++ pieces c)
pieces missing = []
pieces d = d ∷ []

module _ (catalog : Catalog) where
  -- q meets a piece of the dependency
  abbrev pub touches : ℕ → Dep ℕ → Bool
  touches q d = list_any (λ piece. package_meets catalog piece q) (pieces d)

  -- q touches a dependency that p asks for and that is not plainly met, or a conflict of p that no package meets alone
  abbrev pub touches_package : ℕ → ℕ → Bool
  touches_package q p = passes (package_at catalog p) (λ a. list_any (λ id. not (is_plainly_met (dependency catalog id)) && touches q (dependency catalog id)) (asked_by a)
      || list_any (λ id. not (package_wise (dependency catalog id)) && touches q (dependency catalog id)) a.conflicts)

-- Which packages are left out: neither the system, nor what may stand in the place of an installed package, what an install job selects, what supplements something,
-- what has a requirement that packages do not meet alone, and what serves a package that is not left out, or touches what it does not ask for plainly.
pub record LeavesOut (catalog : Catalog) (flags : Flags) (jobs : List Job) (marks : Marks) (left : List Bool) : Type 0 where
  pub system : marked left 0 ≡ false
  pub kept : (p q : ℕ) → is_installed catalog p ≡ true → is_among (feature_candidates catalog flags marks p) q ≡ true → marked left q ≡ false
  pub selected : (q : ℕ) → job_selects catalog jobs (acts Install) q ≡ true → marked left q ≡ false
  pub offered : (q : ℕ) → passes (package_at catalog q) (λ a. list_any (λ d. true) a.supplements) ≡ true → marked left q ≡ false
  pub rich : (q : ℕ) → passes (package_at catalog q) (λ a. not (list_all (λ need. package_wise (dependency catalog need.dep)) a.requires_)) ≡ true → marked left q ≡ false
  pub needed : (p q : ℕ) → is_among (packages catalog) p ≡ true → marked left p ≡ false → serves_package catalog q p ≡ true → marked left q ≡ false
  pub touched : (p q : ℕ) → is_among (packages catalog) p ≡ true → marked left p ≡ false → touches_package catalog q p ≡ true → marked left q ≡ false
