use Rattle.std.proofs.Common.{sym, ◌∙◌}
use Rattle.solv_pool.specs.Prelude.{is_fact}
use Rattle.solv_plan.specs.Inner.Entries.{is_rested}
use Rattle.solv_plan.proofs.Resting.{fits_group}
use Rattle.solv_plan.proofs.Recalled.{quiet_keep}
use Rattle.solv_plan.proofs.AllOut.{keep_asks_nothing, keep_put}
use Rattle.solv_plan.proofs.remembering.recall_installed.Goals as goal

pub returns-then-has_place-clause-asked : goal.returns-then-has_place-clause-asked
returns-then-has_place-clause-asked c = keep_asks_nothing (is_fact c.args.known.now.lits) c.args.enabled.now c.args.keep.now (c.requires.quiet (c.has_place.ensures c.if-has_place.true))

pub returns-then-rest_on_keep-clause-asked : goal.returns-then-rest_on_keep-clause-asked
returns-then-rest_on_keep-clause-asked c =
    quiet_keep (is_fact c.args.known.now.lits) (is_rested c.rest_on_keep.new.settled) (fits_group (is_fact c.args.known.now.lits) c.rest_on_keep.new.settled c.rest_on_keep.ensures.fits) c.args.enabled.now c.args.keep.now (c.rest_on_keep.ensures.settled c.if-rest_on_keep.true)

pub returns-then-rest_on_keep-clause-fits : goal.returns-then-rest_on_keep-clause-fits
returns-then-rest_on_keep-clause-fits c = λ p h. c.rest_on_keep.ensures.fits p (sym (c.settle.ensures.named p) ∙ h)

pub returns-then-is_keep_quiet-clause-asked : goal.returns-then-is_keep_quiet-clause-asked
returns-then-is_keep_quiet-clause-asked c = keep_asks_nothing (is_fact c.args.known.now.lits) c.args.enabled.now c.args.keep.now (sym c.is_keep_quiet.ensures ∙ c.if-is_keep_quiet.true)

pub returns-then-is_keep_quiet-clause-quiet : goal.returns-then-is_keep_quiet-clause-quiet
returns-then-is_keep_quiet-clause-quiet c =
    keep_put (is_fact c.args.known.now.lits) c.args.quiet.now c.put_place.new.places c.args.place c.args.keep.now c.put_place.ensures (sym c.is_keep_quiet.ensures ∙ c.if-is_keep_quiet.true)
