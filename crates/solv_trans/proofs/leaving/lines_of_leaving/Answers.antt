use Rattle.solv_pool.specs.Prelude.{catalog_of}
use Rattle.solv_trans.specs.Changes.{line_of}
use Rattle.solv_trans.specs.Inner.Changes.{leaves}
use Rattle.solv_trans.specs.Inner.Joining.{is_marked}
use Rattle.solv_trans.proofs.Listing.{made_turn}
use Rattle.solv_trans.proofs.leaving.lines_of_leaving.Goals as goal

pub loop-number-preserved : goal.loop-number-preserved
loop-number-preserved c =
    made_turn (leaves (catalog_of c.args.task.now) (is_marked c.args.chosen.now)) (line_of (catalog_of c.args.task.now) (is_marked c.args.chosen.now)) c.loop-number.number c.count-number-end.result
    c.loop-number.lines.items c.add_line.new.lines.items _ c.loop-number-test.true c.in_ok-add_line.ensures c.loop-number.invariant
