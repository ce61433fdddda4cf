use Rattle.std.proofs.Common.{◌+◌, drop}
use Rattle.solv_list.proofs.Lists.{this_turn}
use Rattle.solv_writing.proofs.PutLines.{round_turn}
use Rattle.solv_writing.proofs.round_lines.put_later.Goals as goal

pub loop-round-preserved : goal.loop-round-preserved
loop-round-preserved c =
    round_turn c.round-item.result (drop c.loop-round.round-index c.args.rounds.now) (drop (c.loop-round.round-index + 1) c.args.rounds.now) c.loop-round.into.items c.put_next.new.into.items _
    (this_turn c.args.rounds.now c.loop-round.round-index c.round-item.result c.loop-round-test.true c.round-item.is) c.in_ok-put_next.ensures c.loop-round.invariant
