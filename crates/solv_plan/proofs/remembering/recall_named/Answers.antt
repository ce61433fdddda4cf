use Rattle.std.proofs.Common.{sym, ap, ◌∙◌}
use Rattle.solv_pool.specs.Prelude.{is_fact}
use Rattle.solv_plan.specs.Inner.Entries.{is_rested}
use Rattle.solv_plan.specs.Inner.Settling.{met_by}
use Rattle.solv_plan.proofs.Resting.{fits_group}
use Rattle.solv_plan.proofs.Recalled.{quiet_named}
use Rattle.solv_plan.proofs.remembering.recall_named.Goals as goal

pub returns-then-rest_on_one-clause-asked : goal.returns-then-rest_on_one-clause-asked
returns-then-rest_on_one-clause-asked c =
    quiet_named (is_fact c.args.known.now.lits) (is_rested c.rest_on_one.new.self) (fits_group (is_fact c.args.known.now.lits) c.rest_on_one.new.self c.rest_on_one.ensures.fits) c.args.relations.now c.args.named.now
    (ap (met_by (is_rested c.rest_on_one.new.self)) (sym c.held.ensures) ∙ c.rest_on_one.ensures.met c.if-rest_on_one.true)

pub returns-then-rest_on_one-clause-fits : goal.returns-then-rest_on_one-clause-fits
returns-then-rest_on_one-clause-fits c = λ p h. c.rest_on_one.ensures.fits p (sym (c.settle.ensures.named p) ∙ h)
