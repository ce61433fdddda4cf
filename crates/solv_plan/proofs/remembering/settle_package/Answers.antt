use Rattle.std.proofs.Common.{sym, ◌∙◌}
use Rattle.solv_pool.specs.Prelude.{is_fact}
use Rattle.solv_plan.specs.Inner.Entries.{is_rested}
use Rattle.solv_plan.specs.Inner.Settling.{known_in}
use Rattle.solv_plan.proofs.Resting.{fits_group}
use Rattle.solv_plan.proofs.Below.{all_more}
use Rattle.solv_plan.proofs.remembering.settle_package.Goals as goal

pub returns-clause-met : goal.returns-clause-met
returns-clause-met c = λ e.
    all_more c.args.relations.now (is_rested c.rest_on_wants.new.settled) (known_in c.args.known.now.lits) (fits_group (is_fact c.args.known.now.lits) c.rest_on_wants.new.settled c.rest_on_wants.ensures.fits)
    c.args.wants.now (c.rest_on_wants.ensures.settled c.if-not-rest_on_wants.false)

pub returns-clause-fits : goal.returns-clause-fits
returns-clause-fits c = λ p h. c.rest_on_wants.ensures.fits p (sym (c.settle.ensures.named p) ∙ h)
