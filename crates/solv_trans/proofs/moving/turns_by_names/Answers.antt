use Rattle.std.proofs.Common.{arith}
use Rattle.solv_pool.specs.Prelude.{catalog_of}
use Rattle.solv_trans.specs.Inner.Joining.{is_marked, turn_of}
use Rattle.solv_trans.proofs.Marked.{turns_more}
use Rattle.solv_trans.proofs.moving.turns_by_names.Goals as goal

pub loop-pack-preserved : goal.loop-pack-preserved
loop-pack-preserved c = record {
  size = omega (arith, c.in_ok-push.ensures.len, c.loop-pack.invariant.size);
  each = rw c.in_ok-push.ensures.items (turns_more c.loop-pack.turns.items c.turn_of.result (turn_of (catalog_of c.args.task.now) (is_marked c.args.in_set.now)) c.loop-pack.pack c.loop-pack.invariant.size c.turn_of.ensures c.loop-pack.invariant.each);
}
