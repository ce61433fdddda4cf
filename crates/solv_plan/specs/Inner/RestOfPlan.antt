-- What stands in a plan after its demands and its installed packages.
use Rattle.std.specs.Prelude.{[]}
use Rattle.solv_pool.specs.Prelude.{Catalog}
use Rattle.solv_pool.specs.declared.tasks.Flags.{Flags}
use Rattle.solv_pool.specs.declared.job_marks.Marks.{Marks}
use Rattle.solv_plan.specs.Inner.PlanOf.{plan_of}
use Rattle.solv_plan.specs.declared.plans.Plan.{Plan}
use Rattle.solv_plan.specs.declared.plans.Rest.{Rest}

-- the rest of a plan
abbrev pub rest_in : Plan → Rest
rest_in plan = record { relations = plan.relations; required = plan.required; recommended = plan.recommended; supplements = plan.supplements }

-- the rest of each plan for these packages, flags and marks: jobs don't change it
abbrev pub rest_by : Catalog → Flags → Marks → Rest
rest_by catalog flags marks = rest_in (plan_of (record { catalog = catalog; flags = flags; jobs = []; marks = marks }))
