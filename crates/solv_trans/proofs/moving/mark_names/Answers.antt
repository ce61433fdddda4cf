use Rattle.std.proofs.Common.{◌<◌, length, arith}
use Rattle.solv_pool.specs.Prelude.{catalog_of}
use Rattle.solv_trans.specs.Inner.Joining.{is_marked}
use Rattle.solv_trans.proofs.Marked.{marked_more}
use Rattle.solv_trans.proofs.moving.mark_names.Goals as goal

pub loop-before-preserved : goal.loop-before-preserved
loop-before-preserved c =
    let lt : c.loop-before.before < length c.args.task.now.universe.packages = omega (arith, c.count-before-end.ensures) in
    record { left = marked_more (catalog_of c.args.task.now) (is_marked c.args.in_set.now) c.loop-before.names c.mark_name.new.names c.loop-before.before lt c.mark_name.ensures c.loop-before.invariant.left }
