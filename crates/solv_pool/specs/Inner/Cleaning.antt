-- Steps on the way to what is cleaned.
use Rattle.std.specs.Prelude.{ℕ, List, filter}
use Rattle.solv_pool.specs.Catalog.{Catalog, packages, members}
use Rattle.solv_pool.specs.Cleaning.{is_given_up, is_root, kept, unkept}
use Rattle.solv_pool.specs.declared.jobs.Job.{Job}

module _ (catalog : Catalog) (jobs : List Job) where
  -- the packages that are given up, ascending
  abbrev pub given_up : List ℕ
  given_up = filter (is_given_up catalog jobs) (packages catalog)

  -- the roots beside what is touched, ascending
  abbrev pub roots : List ℕ → List ℕ
  roots these = filter (is_root catalog jobs these) (members catalog)

  -- of what is touched, what is left and not kept
  abbrev pub cleaned_beside : List ℕ → List ℕ
  cleaned_beside these = unkept catalog jobs these (kept catalog jobs these)
