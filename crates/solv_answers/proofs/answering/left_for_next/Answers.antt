use Rattle.std.proofs.Common.{◌∙◌, ap}
use Rattle.solv_plan.specs.Inner.RestOfPlan.{rest_in}
use Rattle.solv_answers.proofs.answering.left_for_next.Goals as goal

pub returns-then-keeps : goal.returns-then-keeps
returns-then-keeps c = λ r core asked. c.into_rest.ensures ∙ ap rest_in asked.plan
