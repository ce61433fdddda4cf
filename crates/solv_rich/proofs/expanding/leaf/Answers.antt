use Rattle.std.proofs.Common.{◌≡◌, ◌∙◌, ◌++◌, ap, subst, take, List}
use Rattle.std.specs.Prelude.{filter}
use Rattle.solv_pool.specs.Prelude.{Catalog, catalog_of, dependency, members, Clause, package_meets}
use Rattle.solv_rich.specs.Inner.Expansions.{IsExpansion}
use Rattle.solv_rich.specs.Inner.Singles.{without}
use Rattle.solv_rich.proofs.Around.{leaf_is}
use Rattle.solv_rich.proofs.Rising.{rising_filter, members_rise}
use Rattle.solv_rich.proofs.expanding.leaf.Goals as goal

pub place_without-place-requires : goal.place_without-place-requires
place_without-place-requires c =
    let catalog : Catalog = catalog_of c.args.task.now in
    let list = c.of-packs.ensures.exact catalog c.requires.index in
    rw list (rising_filter (package_meets catalog (dependency catalog c.args.dep)) 0 (members catalog) (members_rise catalog))

pub returns : goal.returns
returns c =
    let catalog : Catalog = catalog_of c.args.task.now in
    let list = c.of-packs.ensures.exact catalog c.requires.index in
    let around : c.in_front.result.now ++ c.behind.result.now ≡ without c.args.except.now (filter (package_meets catalog (dependency catalog c.args.dep)) (members catalog))
    = ap (λ t. t ++ c.behind.result.now) c.in_front.ensures ∙ ap (λ t. take c.place_without-place.result c.of-packs.result.now ++ t) c.behind.ensures ∙ c.place_without-place.ensures.without ∙ ap (without c.args.except.now) list in
    subst (λ (cs : List Clause). IsExpansion cs c.either.result) (leaf_is catalog c.args.positive c.args.except.now (dependency catalog c.args.dep) c.in_front.result.now c.behind.result.now around) c.either.ensures
