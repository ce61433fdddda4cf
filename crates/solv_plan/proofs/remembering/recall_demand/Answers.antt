use Rattle.std.proofs.Common.{sym, ap, ◌∙◌}
use Rattle.solv_pool.specs.Prelude.{is_fact}
use Rattle.solv_plan.specs.Inner.Entries.{is_rested}
use Rattle.solv_plan.specs.Inner.Settling.{met_by}
use Rattle.solv_plan.proofs.Resting.{fits_group}
use Rattle.solv_plan.proofs.Recalled.{quiet_demand}
use Rattle.solv_plan.proofs.AllOut.{demand_asks_nothing, demand_put}
use Rattle.solv_plan.proofs.remembering.recall_demand.Goals as goal

pub returns-then-has_place-clause-asked : goal.returns-then-has_place-clause-asked
returns-then-has_place-clause-asked c = demand_asks_nothing (is_fact c.args.known.now.lits) c.args.enabled.now c.args.demand.now (c.requires.quiet (c.has_place.ensures c.if-has_place.true))

pub returns-then-rest_on_one-clause-asked : goal.returns-then-rest_on_one-clause-asked
returns-then-rest_on_one-clause-asked c =
    quiet_demand (is_fact c.args.known.now.lits) (is_rested c.rest_on_one.new.self) (fits_group (is_fact c.args.known.now.lits) c.rest_on_one.new.self c.rest_on_one.ensures.fits) c.args.enabled.now c.args.demand.now
    (ap (met_by (is_rested c.rest_on_one.new.self)) (sym c.held.ensures) ∙ c.rest_on_one.ensures.met c.if-rest_on_one.true)

pub returns-then-rest_on_one-clause-fits : goal.returns-then-rest_on_one-clause-fits
returns-then-rest_on_one-clause-fits c = λ p h. c.rest_on_one.ensures.fits p (sym (c.settle.ensures.named p) ∙ h)

pub returns-then-is_demand_quiet-clause-asked : goal.returns-then-is_demand_quiet-clause-asked
returns-then-is_demand_quiet-clause-asked c = demand_asks_nothing (is_fact c.args.known.now.lits) c.args.enabled.now c.args.demand.now (sym c.is_demand_quiet.ensures ∙ c.if-is_demand_quiet.true)

pub returns-then-is_demand_quiet-clause-quiet : goal.returns-then-is_demand_quiet-clause-quiet
returns-then-is_demand_quiet-clause-quiet c =
    demand_put (is_fact c.args.known.now.lits) c.args.quiet.now c.put_place.new.places c.args.place c.args.demand.now c.put_place.ensures (sym c.is_demand_quiet.ensures ∙ c.if-is_demand_quiet.true)
