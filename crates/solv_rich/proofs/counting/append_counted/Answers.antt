use Rattle.std.proofs.Common.{◌∙◌, sym, rules}
use Rattle.solv_pool.specs.Prelude.{catalog_of, dependency, package_meets}
use Rattle.solv_rich.proofs.Rising.{numbers_of}
use Rattle.solv_rich.proofs.SingleClauses.{clauses_are}
use Rattle.solv_rich.proofs.counting.append_counted.Goals as goal

pub append-requires : goal.append-requires
append-requires c =
    let catalog = catalog_of c.args.task.now in
    let list = c.of.ensures.exact catalog c.requires.index in
    record { numbers = rw list (numbers_of catalog (package_meets catalog (dependency catalog c.args.dep)) c.marks_each.ensures.packages_fit) }

pub returns-then-package_wise-clause-appended : goal.returns-then-package_wise-clause-appended
returns-then-package_wise-clause-appended c =
    let catalog = catalog_of c.args.task.now in
    let list = c.of.ensures.exact catalog c.requires.index in
    rw (clauses_are catalog c.args.except.now c.args.positive (dependency catalog c.args.dep) (sym c.package_wise.ensures ∙ c.if-package_wise.true), ← list) (search rules)
