use Rattle.std.proofs.Common.{◌∙◌}
use Rattle.solv_pool.specs.Prelude.{catalog_of}
use Rattle.solv_trans.specs.Inner.Joining.{is_marked}
use Rattle.solv_trans.proofs.Greatest.{partner_is}
use Rattle.solv_trans.proofs.leaving.partner.Goals as goal

pub returns-clause-exact : goal.returns-clause-exact
returns-clause-exact c =
    c.greatest.ensures.exact
    ∙ partner_is c.evr_order_is_total.ensures.total (catalog_of c.args.task.now) (is_marked c.args.chosen.now) c.args.pack c.namesakes.result.now c.namesakes.ensures.exact
