use Rattle.solv_deps.specs.Entering.{text_entered}
use Rattle.solv_tags.proofs.HandLines.{refused_cause}
use Rattle.solv_tags.proofs.hand.enter.Goals as goal

pub returns-in-Err-clause-refused : goal.returns-in-Err-clause-refused
returns-in-Err-clause-refused c = rw c.cause_of.ensures.cause (λ next. refused_cause c.in-Err.fault (text_entered c.args.text.now c.args.pool.now) next c.in-Err.ensures.refused)
