use Rattle.std.proofs.Common.{◌<◌, ◌∷◌, [], take, length, arith}
use Rattle.solv_trans.specs.Inner.Joining.{to_one}
use Rattle.solv_trans.proofs.Joined.{joins_more}
use Rattle.solv_trans.proofs.edges.join_all_to.Goals as goal
use Rattle.solv_list.proofs.Lists.{take_next}

pub loop-other-preserved : goal.loop-other-preserved
loop-other-preserved c =
    let lt : c.loop-other.other-index < length c.args.providers.now = omega arith in
    rw (take_next c.args.providers.now c.loop-other.other-index c.other-item.result lt c.other-item.is)
    (joins_more (to_one c.args.turns.now c.args.pack c.args.need.now) (take c.loop-other.other-index c.args.providers.now) (c.other-item.result ∷ []) c.args.links.now.items c.loop-other.links.items c.join_to.new.links.items c.loop-other.invariant c.in_ok-join_to.ensures)
