use Rattle.std.proofs.Common.{◌≡◌, ◌∙◌, ap, length, refl}
use Rattle.std.specs.Prelude.{filter}
use Rattle.solv_pool.specs.Prelude.{Catalog, catalog_of, dependency, members, package_meets}
use Rattle.solv_rich.specs.Inner.Singles.{without}
use Rattle.solv_rich.proofs.Rising.{left_out}
use Rattle.solv_rich.proofs.relations.leaf_count.Goals as goal

pub returns-clause-exact : goal.returns-clause-exact
returns-clause-exact c =
    let catalog : Catalog = catalog_of c.args.task.now in
    let list = c.of.ensures.exact catalog c.requires.index in
    let count : c.count_of-count.result ≡ length (without c.args.except.now (filter (package_meets catalog (dependency catalog c.args.dep)) (members catalog)))
    = c.count_of-count.ensures.count ∙ ap (λ qs. length (without c.args.except.now qs)) list in
    rw (c.if-positive.false, c.min.ensures, count, left_out c.args.except.now (package_meets catalog (dependency catalog c.args.dep)) (members catalog)) refl
