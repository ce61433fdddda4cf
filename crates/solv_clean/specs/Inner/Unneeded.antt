-- What the user asked for by name.
use Rattle.std.specs.Prelude.{ℕ, Bool, ◌&&◌, List}
use Rattle.std.specs.List.{list_any}
use Rattle.solv_pool.specs.Prelude.{Catalog, packages, same_name}
use Rattle.solv_pool.specs.JobKinds.{acts, job_selects_installed}
use Rattle.solv_pool.specs.declared.jobs.Job.{Job}
use Rattle.solv_pool.specs.declared.jobs.Action.TheVariants.{UserInstalled}

-- p has the name of an installed package that the user asked for
abbrev pub has_users_name : Catalog → List Job → ℕ → Bool
has_users_name catalog jobs p = list_any (λ q. job_selects_installed catalog jobs (acts UserInstalled) q && same_name catalog q p) (packages catalog)
