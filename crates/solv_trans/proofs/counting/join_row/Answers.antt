use Rattle.std.proofs.Common.{◌<◌, length, arith}
use Rattle.std.specs.Prelude.{slice_index}
use Rattle.solv_trans.proofs.counting.join_row.Goals as goal
use Rattle.solv_pool.proofs.Among.{among_index}

pub join_apart-requires-clause-to : goal.join_apart-requires-clause-to
join_apart-requires-clause-to c =
    let lt : c.loop-to.to-index < length c.args.next.now = omega arith in
    omega (arith, c.requires.inside (slice_index c.args.next.now c.loop-to.to-index) (among_index c.args.next.now c.loop-to.to-index lt), c.loop-to.invariant.size)
