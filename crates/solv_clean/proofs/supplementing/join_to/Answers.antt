use Rattle.std.proofs.Common.{◌-◌, ◌∙◌, ap, sym}
use Rattle.solv_pool.specs.Prelude.{is_among, passes, catalog_of}
use Rattle.solv_pool.specs.declared.packages.Package.{Package}
use Rattle.solv_clean.proofs.Below.{supplements_below}
use Rattle.solv_clean.proofs.Joined.{leads_all, leads_out}
use Rattle.solv_clean.proofs.Served.{package_is}
use Rattle.solv_clean.proofs.supplementing.join_to.Goals as goal

pub returns-then-not-is_in-clause-to : goal.returns-then-not-is_in-clause-to
returns-then-not-is_in-clause-to c = leads_out (catalog_of c.args.members.now.task.now) c.args.members.now.in_set.now c.args.graph.now c.args.pack (sym c.is_in.ensures ∙ c.if-not-is_in.true)

pub join_supplements-requires-clause-held : goal.join_supplements-requires-clause-held
join_supplements-requires-clause-held c = rw c.supplements.ensures (supplements_below c.args.members.now.task.now (c.args.pack - 1) c.package-package.result c.args.members.now.over c.package-package.ensures)

pub join_supplements-requires-clause-of : goal.join_supplements-requires-clause-of
join_supplements-requires-clause-of c id h =
    let at = package_is (catalog_of c.args.members.now.task.now) c.args.pack c.package-package.result c.requires.a_package c.package-package.ensures in
    ap (λ o. passes o (λ (a : Package). is_among a.supplements id)) at ∙ ap (λ xs. is_among xs id) (sym c.supplements.ensures) ∙ h

pub returns-clause-to : goal.returns-clause-to
returns-clause-to c =
    let at = package_is (catalog_of c.args.members.now.task.now) c.args.pack c.package-package.result c.requires.a_package c.package-package.ensures in
    leads_all (catalog_of c.args.members.now.task.now) c.args.members.now.in_set.now c.join_supplements.new.graph c.args.pack c.package-package.result at
    (λ id h. c.in_ok-join_supplements.ensures.by id (ap (λ xs. is_among xs id) c.supplements.ensures ∙ h))
