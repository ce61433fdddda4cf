use Rattle.solv_graph.specs.Inner.Orders.{part_of}
use Rattle.solv_trans.proofs.Parted.{part_more, few_more}
use Rattle.solv_trans.proofs.parting.parts_of.Goals as goal

pub loop-pack-preserved : goal.loop-pack-preserved
loop-pack-preserved c = record {
  few = few_more (part_of c.args.turns.now c.loop-pack.pack) c.loop-pack.parts.items c.add_part.new.parts.items c.loop-pack.pack c.in_ok-add_part.ensures c.loop-pack.invariant.few;
  parts = part_more c.args.turns.now c.loop-pack.parts.items c.add_part.new.parts.items c.loop-pack.pack c.in_ok-add_part.ensures c.loop-pack.invariant.parts;
}
