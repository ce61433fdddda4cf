use Rattle.solv_plan.specs.Inner.Entries.{is_rested}
use Rattle.solv_plan.specs.Inner.Settling.{want_settled}
use Rattle.solv_plan.proofs.Recalled.{want_more, all_from}
use Rattle.solv_plan.proofs.remembering.rest_on_wants.Goals as goal

pub loop-want-preserved : goal.loop-want-preserved
loop-want-preserved c = record {
  right = λ by h. c.rest_on_want.ensures.right by (c.loop-want.invariant.right by h);
  fits = c.rest_on_want.ensures.fits;
  left = λ rested more rest. c.loop-want.invariant.left rested (λ p h. more p (c.rest_on_want.ensures.still p h))
      (all_from (want_settled c.args.relations.now rested) c.args.wants.now c.loop-want.want-index c.want-item.result c.loop-want-test.true c.want-item.is
      (want_more c.args.relations.now (is_rested c.rest_on_want.new.settled) rested more c.want-item.result (c.rest_on_want.ensures.settled c.if-not-rest_on_want.false)) rest);
}

pub returns-then-not-rest_on_want-clause-fits : goal.returns-then-not-rest_on_want-clause-fits
returns-then-not-rest_on_want-clause-fits c = λ p h. c.rest_on_want.ensures.fits p (c.give_up.ensures.named p h)
