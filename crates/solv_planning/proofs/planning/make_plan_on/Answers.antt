use Rattle.std.proofs.Common.{◌∙◌, ap, length, refl}
use Rattle.std.specs.Prelude.{flat_map}
use Rattle.std.specs.List.{list_all}
use Rattle.solv_pool.specs.Inner.HardRules.{numbered_jobs}
use Rattle.solv_questions.specs.Questions.{request_of}
use Rattle.solv_plan.specs.Inner.PlanOf.{numbered, demands_of_job, keeps_of}
use Rattle.solv_planning.specs.Inner.Readiness.{asks_for_packages}
use Rattle.solv_planning.proofs.Requirements.{rules_ask}
use Rattle.solv_planning.proofs.planning.make_plan_on.Goals as goal

pub demands-requires : goal.demands-requires
demands-requires c = record { packages = ap (λ t. list_all (asks_for_packages (length c.args.task.now.universe.packages)) t) c.requires.rules ∙ rules_ask (request_of c.args.task.now c.args.marks.now) }

pub keeps-requires : goal.keeps-requires
keeps-requires c = record { packages = ap (λ t. list_all (asks_for_packages (length c.args.task.now.universe.packages)) t) c.requires.rules ∙ rules_ask (request_of c.args.task.now c.args.marks.now) }

pub returns : goal.returns
returns c =
    let r = request_of c.args.task.now c.args.marks.now in
    let one = c.in_ok-demands.ensures ∙ ap (λ t. flat_map (λ job. demands_of_job r (numbered t) job.0) (numbered_jobs c.args.task.now.jobs)) c.requires.rules in
    let two = c.in_ok-keeps.ensures ∙ ap (λ t. keeps_of r (numbered t)) c.requires.rules in
    rw (c.into_plan.ensures, one, two, c.requires.rest) refl
