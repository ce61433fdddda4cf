use Rattle.std.proofs.Common.{◌∙◌, refl}
use Rattle.solv_core.specs.Inner.Meeting.{set_by}
use Rattle.solv_decide.proofs.Answering.{met_alike}
use Rattle.solv_decide.proofs.solving.is_met_by.Goals as goal

pub returns : goal.returns
returns c = λ r asker asked. c.is_met_by.ensures ∙ met_alike r asker c.args.core.now.made asked c.plans_ask_the_questions.ensures c.clauses_say_the_rule.ensures c.args.enabled.now (set_by c.args.inside.now) refl
