use Rattle.solv_draft.proofs.Drawing.{flags_drawn}
use Rattle.solv_draft.proofs.systems.set_flags.Goals as goal

pub returns-clause-done : goal.returns-clause-done
returns-clause-done c = rw c.flags_of-task.ensures (flags_drawn c.args.task.now c.requires c.args.row.now)
