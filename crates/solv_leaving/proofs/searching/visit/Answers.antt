use Rattle.std.proofs.Common.{◌-◌}
use Rattle.solv_clean.proofs.Below.{requires_below, recommends_below, conflicts_below}
use Rattle.solv_leaving.proofs.searching.visit.Goals as goal

pub take_needs-requires : goal.take_needs-requires
take_needs-requires c = rw c.requires_.ensures (requires_below c.args.searched.now.task.now (c.args.pack - 1) c.package-package.result c.args.searched.now.over c.package-package.ensures)

pub take_deps-requires : goal.take_deps-requires
take_deps-requires c = rw c.recommends.ensures (recommends_below c.args.searched.now.task.now (c.args.pack - 1) c.package-package.result c.args.searched.now.over c.package-package.ensures)

pub take_conflicts-requires : goal.take_conflicts-requires
take_conflicts-requires c = rw c.conflicts.ensures (conflicts_below c.args.searched.now.task.now (c.args.pack - 1) c.package-package.result c.args.searched.now.over c.package-package.ensures)
