use Rattle.solv_pool.specs.Prelude.{is_fact}
use Rattle.solv_plan.specs.Inner.Plans.{question_of}
use Rattle.solv_plan.specs.Inner.Settling.{known_in}
use Rattle.solv_plan.proofs.Recalled.{quiet_wants}
use Rattle.solv_plan.proofs.remembering.recall_package.Goals as goal

pub returns-then-settle_package-clause-asked : goal.returns-then-settle_package-clause-asked
returns-then-settle_package-clause-asked c =
    quiet_wants (is_fact c.args.known.now.lits) (known_in c.args.known.now.lits) (λ p h. h) c.args.relations.now (question_of c.args.asking) c.args.wants.now (c.settle_package.ensures.met c.if-settle_package.true)
