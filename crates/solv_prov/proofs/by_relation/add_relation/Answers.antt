use Rattle.std.proofs.Common.{refl, length, arith, ◌<◌}
use Rattle.solv_pool.specs.Prelude.{Catalog, plain, versioned, catalog_of}
use Rattle.std.proofs.lemmas.List.{append-nil}
use Rattle.solv_prov.specs.Index.{providers_of}
use Rattle.solv_prov.proofs.Relations.{first_list, second_list, closed_many, or_list, with_list, without_list, first_below, second_below, IsOther, capability_providers, capability_named, capability_is, simple_within, versioned_within, other_providers, other_named, named_by-none}
use Rattle.solv_prov.proofs.by_relation.add_relation.Goals as goal
use Rattle.solv_list.proofs.Answers.{where_done}

pub returns-in-Simple-clause-providers : goal.returns-in-Simple-clause-providers
returns-in-Simple-clause-providers c =
    rw (capability_providers (catalog_of c.args.task.now) c.args.id (plain c.in-Simple.name) c.args.provides.now c.requires.provides
    (simple_within (length c.args.task.now.pool.names) c.args.id c.in-Simple.name c.in-Simple.ensures.below) c.in-Simple.ensures.tree)
    c.add_capability.ensures.providers

pub returns-in-Simple-clause-named : goal.returns-in-Simple-clause-named
returns-in-Simple-clause-named c =
    rw (capability_named (catalog_of c.args.task.now) c.args.id (plain c.in-Simple.name) c.args.provides.now c.requires.provides
    (simple_within (length c.args.task.now.pool.names) c.args.id c.in-Simple.name c.in-Simple.ensures.below)
    (capability_is (catalog_of c.args.task.now) c.args.id _ c.in-Simple.ensures.node c.in-Simple.ensures.tree))
    c.add_capability.ensures.named

pub returns-in-Versioned-clause-providers : goal.returns-in-Versioned-clause-providers
returns-in-Versioned-clause-providers c =
    rw (capability_providers (catalog_of c.args.task.now) c.args.id (versioned c.in-Versioned.name c.in-Versioned.comparison c.in-Versioned.evr) c.args.provides.now c.requires.provides
    (versioned_within (length c.args.task.now.pool.names) c.args.id c.in-Versioned.name c.in-Versioned.comparison c.in-Versioned.evr c.in-Versioned.ensures.below) c.in-Versioned.ensures.tree)
    c.add_capability-in-Versioned.ensures.providers

pub returns-in-Versioned-clause-named : goal.returns-in-Versioned-clause-named
returns-in-Versioned-clause-named c =
    rw (capability_named (catalog_of c.args.task.now) c.args.id (versioned c.in-Versioned.name c.in-Versioned.comparison c.in-Versioned.evr) c.args.provides.now c.requires.provides
    (versioned_within (length c.args.task.now.pool.names) c.args.id c.in-Versioned.name c.in-Versioned.comparison c.in-Versioned.evr c.in-Versioned.ensures.below)
    (capability_is (catalog_of c.args.task.now) c.args.id _ c.in-Versioned.ensures.node c.in-Versioned.ensures.tree))
    c.add_capability-in-Versioned.ensures.named

pub returns-in-Namespace-clause-named : goal.returns-in-Namespace-clause-named
returns-in-Namespace-clause-named c =
    where_done c.add_distinct.result _
    (rw (named_by-none (catalog_of c.args.task.now) c.args.id (capability_is (catalog_of c.args.task.now) c.args.id _ c.in-Namespace.ensures.node c.in-Namespace.ensures.tree), append-nil) refl)

pub returns-in_default : goal.returns-in_default
returns-in_default c =
    let other : IsOther c.dep.result = record { not_simple = c.in_default.not-Simple; not_versioned = c.in_default.not-Versioned; not_namespace = c.in_default.not-Namespace; not_or = c.in_default.not-Or; not_with = c.in_default.not-With; not_without = c.in_default.not-Without } in
    record {
      providers = rw (other_providers (catalog_of c.args.task.now) c.args.id c.dep.result c.dep.ensures.node c.dep.ensures.tree other, append-nil) refl;
      named = rw (other_named (catalog_of c.args.task.now) c.args.id c.dep.result c.dep.ensures.node c.dep.ensures.tree other, append-nil) refl;
    }

pub add_merged-requires-clause-first : goal.add_merged-requires-clause-first
add_merged-requires-clause-first c =
    let many = closed_many (catalog_of c.args.task.now) c.args.id c.in-Or.a c.in-Or.b c.args.made.now.providers.closed c.requires.before in
    let low : c.in-Or.a < c.args.id = first_below (length c.args.task.now.pool.names) c.args.id c.in-Or.a c.in-Or.b c.in-Or.ensures.below in
    omega (arith, many, low)

pub add_merged-requires-clause-second : goal.add_merged-requires-clause-second
add_merged-requires-clause-second c =
    let many = closed_many (catalog_of c.args.task.now) c.args.id c.in-Or.a c.in-Or.b c.args.made.now.providers.closed c.requires.before in
    let low : c.in-Or.b < c.args.id = second_below (length c.args.task.now.pool.names) c.args.id c.in-Or.a c.in-Or.b c.in-Or.ensures.below in
    omega (arith, many, low)

pub returns-in-Or-clause-providers : goal.returns-in-Or-clause-providers
returns-in-Or-clause-providers c =
    let catalog : Catalog = catalog_of c.args.task.now in
    rw (or_list catalog c.args.id c.in-Or.a c.in-Or.b c.in-Or.ensures.tree)
    (c.add_merged.ensures (providers_of catalog c.in-Or.a) (providers_of catalog c.in-Or.b)
    (first_list catalog c.args.id c.in-Or.a c.in-Or.b c.args.made.now.providers.closed c.requires.before (first_below (length c.args.task.now.pool.names) c.args.id c.in-Or.a c.in-Or.b c.in-Or.ensures.below))
    (second_list catalog c.args.id c.in-Or.a c.in-Or.b c.args.made.now.providers.closed c.requires.before (second_below (length c.args.task.now.pool.names) c.args.id c.in-Or.a c.in-Or.b c.in-Or.ensures.below)))

pub returns-in-Or-clause-named : goal.returns-in-Or-clause-named
returns-in-Or-clause-named c =
    where_done c.add_merged.result _
    (rw (named_by-none (catalog_of c.args.task.now) c.args.id (capability_is (catalog_of c.args.task.now) c.args.id _ c.in-Or.ensures.node c.in-Or.ensures.tree), append-nil) refl)

pub add_merged-requires-in-With-clause-first : goal.add_merged-requires-in-With-clause-first
add_merged-requires-in-With-clause-first c =
    let many = closed_many (catalog_of c.args.task.now) c.args.id c.in-With.a c.in-With.b c.args.made.now.providers.closed c.requires.before in
    let low : c.in-With.a < c.args.id = first_below (length c.args.task.now.pool.names) c.args.id c.in-With.a c.in-With.b c.in-With.ensures.below in
    omega (arith, many, low)

pub add_merged-requires-in-With-clause-second : goal.add_merged-requires-in-With-clause-second
add_merged-requires-in-With-clause-second c =
    let many = closed_many (catalog_of c.args.task.now) c.args.id c.in-With.a c.in-With.b c.args.made.now.providers.closed c.requires.before in
    let low : c.in-With.b < c.args.id = second_below (length c.args.task.now.pool.names) c.args.id c.in-With.a c.in-With.b c.in-With.ensures.below in
    omega (arith, many, low)

pub returns-in-With-clause-providers : goal.returns-in-With-clause-providers
returns-in-With-clause-providers c =
    let catalog : Catalog = catalog_of c.args.task.now in
    rw (with_list catalog c.args.id c.in-With.a c.in-With.b c.in-With.ensures.tree)
    (c.add_merged-in-With.ensures (providers_of catalog c.in-With.a) (providers_of catalog c.in-With.b)
    (first_list catalog c.args.id c.in-With.a c.in-With.b c.args.made.now.providers.closed c.requires.before (first_below (length c.args.task.now.pool.names) c.args.id c.in-With.a c.in-With.b c.in-With.ensures.below))
    (second_list catalog c.args.id c.in-With.a c.in-With.b c.args.made.now.providers.closed c.requires.before (second_below (length c.args.task.now.pool.names) c.args.id c.in-With.a c.in-With.b c.in-With.ensures.below)))

pub returns-in-With-clause-named : goal.returns-in-With-clause-named
returns-in-With-clause-named c =
    where_done c.add_merged-in-With.result _
    (rw (named_by-none (catalog_of c.args.task.now) c.args.id (capability_is (catalog_of c.args.task.now) c.args.id _ c.in-With.ensures.node c.in-With.ensures.tree), append-nil) refl)

pub add_merged-requires-in-Without-clause-first : goal.add_merged-requires-in-Without-clause-first
add_merged-requires-in-Without-clause-first c =
    let many = closed_many (catalog_of c.args.task.now) c.args.id c.in-Without.a c.in-Without.b c.args.made.now.providers.closed c.requires.before in
    let low : c.in-Without.a < c.args.id = first_below (length c.args.task.now.pool.names) c.args.id c.in-Without.a c.in-Without.b c.in-Without.ensures.below in
    omega (arith, many, low)

pub add_merged-requires-in-Without-clause-second : goal.add_merged-requires-in-Without-clause-second
add_merged-requires-in-Without-clause-second c =
    let many = closed_many (catalog_of c.args.task.now) c.args.id c.in-Without.a c.in-Without.b c.args.made.now.providers.closed c.requires.before in
    let low : c.in-Without.b < c.args.id = second_below (length c.args.task.now.pool.names) c.args.id c.in-Without.a c.in-Without.b c.in-Without.ensures.below in
    omega (arith, many, low)

pub returns-in-Without-clause-providers : goal.returns-in-Without-clause-providers
returns-in-Without-clause-providers c =
    let catalog : Catalog = catalog_of c.args.task.now in
    rw (without_list catalog c.args.id c.in-Without.a c.in-Without.b c.in-Without.ensures.tree)
    (c.add_merged-in-Without.ensures (providers_of catalog c.in-Without.a) (providers_of catalog c.in-Without.b)
    (first_list catalog c.args.id c.in-Without.a c.in-Without.b c.args.made.now.providers.closed c.requires.before (first_below (length c.args.task.now.pool.names) c.args.id c.in-Without.a c.in-Without.b c.in-Without.ensures.below))
    (second_list catalog c.args.id c.in-Without.a c.in-Without.b c.args.made.now.providers.closed c.requires.before (second_below (length c.args.task.now.pool.names) c.args.id c.in-Without.a c.in-Without.b c.in-Without.ensures.below)))

pub returns-in-Without-clause-named : goal.returns-in-Without-clause-named
returns-in-Without-clause-named c =
    where_done c.add_merged-in-Without.result _
    (rw (named_by-none (catalog_of c.args.task.now) c.args.id (capability_is (catalog_of c.args.task.now) c.args.id _ c.in-Without.ensures.node c.in-Without.ensures.tree), append-nil) refl)
