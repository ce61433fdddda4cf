-- What a decision leaves for the next one.
use Rattle.std.specs.Prelude.{◌≡◌}
use Rattle.solv_pool.specs.Prelude.{Catalog}
use Rattle.solv_pool.specs.declared.job_marks.Marks.{Marks}
use Rattle.solv_pool.specs.declared.tasks.Flags.{Flags}
use Rattle.solv_plan.specs.Inner.RestOfPlan.{rest_by}
use Rattle.solv_plan.specs.declared.plans.Rest.{Rest}

-- the part of a plan that no job changes, for these packages, flags and marks
abbrev pub IsRestFor : Catalog → Flags → Marks → Rest → Type 0
IsRestFor catalog flags marks rest = rest ≡ rest_by catalog flags marks
