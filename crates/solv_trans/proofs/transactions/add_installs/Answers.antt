use Rattle.std.proofs.Common.{◌&&◌, not}
use Rattle.solv_pool.specs.Prelude.{catalog_of}
use Rattle.solv_trans.specs.declared.kinds.Change.TheVariants.{Install}
use Rattle.solv_trans.specs.Moving.{comes}
use Rattle.solv_trans.specs.Inner.Joining.{is_marked}
use Rattle.solv_trans.proofs.Listing.{made_turn}
use Rattle.solv_trans.proofs.transactions.add_installs.Goals as goal

pub loop-number-preserved : goal.loop-number-preserved
loop-number-preserved c =
    made_turn (λ q. comes (catalog_of c.args.task.now) (is_marked c.args.chosen.now) q && not (is_marked c.args.brought.now q)) Install c.loop-number.number c.count-number-end.result
    c.loop-number.lines.items c.add_install.new.lines.items _ c.loop-number-test.true c.in_ok-add_install.ensures c.loop-number.invariant
