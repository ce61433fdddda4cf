use Rattle.std.proofs.Common.{sym}
use Rattle.solv_leaving.proofs.NoConditions.{needs_wise}
use Rattle.solv_leaving.proofs.starting.are_met_alone.Goals as goal

pub returns-then-is_empty : goal.returns-then-is_empty
returns-then-is_empty c = sym (needs_wise c.args.pool.now.nodes c.args.wise.now c.requires.wise (sym c.if-is_empty.ensures) c.args.needs.now c.requires.needs)
