use Rattle.std.proofs.Common.{◌<◌, ◌-◌, ◌∷◌, [], arith}
use Rattle.std.proofs.lemmas.Bool.Decides.{nat_tests}
use Rattle.solv_pool.specs.Prelude.{Catalog, catalog_of}
use Rattle.solv_clean.specs.Inner.Finding.{Finds, serving, serving_need, serving_package}
use Rattle.solv_clean.proofs.Below.{requires_below, recommends_below}
use Rattle.solv_clean.proofs.Found.{finds_both}
use Rattle.solv_clean.proofs.Served.{package_is, asked_are}
use Rattle.solv_clean.proofs.finding.mark_asked.Goals as goal

pub mark_required-requires-clause-held : goal.mark_required-requires-clause-held
mark_required-requires-clause-held c = rw c.requires_.ensures (requires_below c.args.members.now.task.now (c.args.vertex - 1) c.package-package.result c.args.members.now.over c.package-package.ensures)

pub mark_recommended-requires-clause-held : goal.mark_recommended-requires-clause-held
mark_recommended-requires-clause-held c = rw c.recommends.ensures (recommends_below c.args.members.now.task.now (c.args.vertex - 1) c.package-package.result c.args.members.now.over c.package-package.ensures)

pub returns-clause-found : goal.returns-clause-found
returns-clause-found c =
    let catalog : Catalog = catalog_of c.args.members.now.task.now in
    let low : 0 < c.args.vertex = first_of (omega (arith, c.if-vertex-eq0.false), grind (arith, nat_tests, c.if-vertex-eq0.false)) in
    let own : Finds c.args.members.now.in_set.now (serving_need catalog) c.package-package.result.requires_ c.args.marks.now c.args.found.now.items c.mark_required.new.marks c.mark_required.new.found.items = rw c.requires_.ensures at c.in_ok-mark_required.ensures.found in
    let other : Finds c.args.members.now.in_set.now (serving catalog) c.package-package.result.recommends c.mark_required.new.marks c.mark_required.new.found.items c.mark_recommended.new.marks c.mark_recommended.new.found.items = rw c.recommends.ensures at c.in_ok-mark_recommended.ensures.found in
    finds_both c.args.members.now.in_set.now (serving_need catalog) (serving catalog) (serving_package catalog) c.package-package.result.requires_ c.package-package.result.recommends (c.args.vertex ∷ [])
    c.args.marks.now c.args.found.now.items c.mark_required.new.marks c.mark_required.new.found.items c.mark_recommended.new.marks c.mark_recommended.new.found.items
    (asked_are catalog c.args.vertex c.package-package.result (package_is catalog c.args.vertex c.package-package.result low c.package-package.ensures)) own other
