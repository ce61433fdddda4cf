use Rattle.std.proofs.Common.{◌-◌}
use Rattle.solv_pool.specs.Prelude.{Catalog, catalog_of}
use Rattle.solv_clean.proofs.Below.{requires_below, recommends_below, conflicts_below}
use Rattle.solv_clean.proofs.Served.{package_is}
use Rattle.solv_leaving.specs.Inner.Checking.{AllIn, asks_for, conflicts_over, need_asks_for}
use Rattle.solv_leaving.proofs.Closed.{package_in}
use Rattle.solv_leaving.proofs.checking.is_package_in.Goals as goal

pub are_needs_in-requires : goal.are_needs_in-requires
are_needs_in-requires c = rw c.requires_.ensures (requires_below c.args.looked.now.task.now (c.args.pack - 1) c.package-package.result c.args.looked.now.over c.package-package.ensures)

pub are_deps_in-requires : goal.are_deps_in-requires
are_deps_in-requires c = rw c.recommends.ensures (recommends_below c.args.looked.now.task.now (c.args.pack - 1) c.package-package.result c.args.looked.now.over c.package-package.ensures)

pub are_conflicts_in-requires : goal.are_conflicts_in-requires
are_conflicts_in-requires c = rw c.conflicts.ensures (conflicts_below c.args.looked.now.task.now (c.args.pack - 1) c.package-package.result c.args.looked.now.over c.package-package.ensures)

pub returns : goal.returns
returns c ok =
    let catalog : Catalog = catalog_of c.args.looked.now.task.now in
    let left = c.args.looked.now.left.now in
    let a = c.package-package.result in
    let needs : AllIn left (need_asks_for catalog) a.requires_ = rw c.requires_.ensures at c.are_needs_in.ensures c.if-not-are_needs_in.false in
    let deps : AllIn left (asks_for catalog) a.recommends = rw c.recommends.ensures at c.are_deps_in.ensures c.if-not-are_deps_in.false in
    let conflicts : AllIn left (conflicts_over catalog) a.conflicts = rw c.conflicts.ensures at c.are_conflicts_in.ensures ok in
    package_in catalog left c.args.pack a (package_is catalog c.args.pack a c.requires.a_package c.package-package.ensures) needs deps conflicts
