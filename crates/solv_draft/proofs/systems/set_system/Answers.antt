use Rattle.std.proofs.Common.{◌≡◌, length, true, false, Some, rules}
use Rattle.std.specs.Prelude.{not, ◌||◌, nat_lt}
use Rattle.solv_draft.specs.Drafts.{arch_of}
use Rattle.solv_draft.proofs.Drawing.{system_drawn, system_nowhere}
use Rattle.solv_draft.proofs.systems.set_system.Goals as goal

pub returns-then-not-fits_installed-clause-refused : goal.returns-then-not-fits_installed-clause-refused
returns-then-not-fits_installed-clause-refused c =
    let none : (not c.args.has_installed || nat_lt c.args.installed (length c.args.task.now.universe.repos)) ≡ false = search rules in
    system_nowhere c.args.task.now c.requires c.args.arch c.args.has_installed c.args.installed none

pub returns-clause-done : goal.returns-clause-done
returns-clause-done c =
    let there : (not c.args.has_installed || nat_lt c.args.installed (length c.args.task.now.universe.repos)) ≡ true = search rules in
    let arch : arch_of c.args.arch ≡ Some c.in-Some.arch = search rules in
    rw (c.set_system.ensures.set, c.installed_of.ensures) (system_drawn c.args.task.now c.requires c.args.arch c.args.has_installed c.args.installed c.in-Some.arch there arch)
