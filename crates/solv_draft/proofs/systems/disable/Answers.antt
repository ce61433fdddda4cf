use Rattle.std.proofs.Common.{◌≡◌, length, true, false, rules}
use Rattle.solv_draft.specs.JobRows.{is_number_of}
use Rattle.solv_draft.proofs.Drawing.{disabled_drawn, disabled_nowhere}
use Rattle.solv_draft.proofs.systems.disable.Goals as goal

pub returns-then-not-is_number_of-clause-refused : goal.returns-then-not-is_number_of-clause-refused
returns-then-not-is_number_of-clause-refused c =
    let none : is_number_of (length c.args.task.now.universe.packages) c.args.pack ≡ false = search rules in
    disabled_nowhere c.args.task.now c.requires c.args.pack none

pub returns-clause-done : goal.returns-clause-done
returns-clause-done c =
    let some : is_number_of (length c.args.task.now.universe.packages) c.args.pack ≡ true = search rules in
    rw c.disable.ensures.set (disabled_drawn c.args.task.now c.requires c.args.pack some)
