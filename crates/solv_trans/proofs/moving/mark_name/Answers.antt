use Rattle.std.proofs.Common.{◌≡◌, ◌∙◌, ◌<◌, ◌-◌, true, length, arith, rules}
use Rattle.solv_pool.specs.Prelude.{catalog_of}
use Rattle.solv_trans.specs.Moving.{comes}
use Rattle.solv_trans.specs.Inner.Joining.{is_marked}
use Rattle.solv_trans.proofs.Asking.{name_below, package_is}
use Rattle.solv_trans.proofs.Marked.{name_marked}
use Rattle.solv_trans.proofs.moving.mark_name.Goals as goal

pub bounds-names-name-inside : goal.bounds-names-name-inside
bounds-names-name-inside c =
    let is : c.name.inside.0 ≡ c.package.result.name = c.name.view_is ∙ c.name-name.ensures in
    omega (arith, is, name_below c.args.task.now (c.args.pack - 1) c.package.result c.requires.over c.package.ensures, c.requires.names)

pub returns-then-does_come : goal.returns-then-does_come
returns-then-does_come c =
    let is : c.name.inside.0 ≡ c.package.result.name = c.name.view_is ∙ c.name-name.ensures in
    let coming : comes (catalog_of c.args.task.now) (is_marked c.args.in_set.now) c.args.pack ≡ true = search rules in
    let lt : c.package.result.name < length c.args.names.now = omega (arith, name_below c.args.task.now (c.args.pack - 1) c.package.result c.requires.over c.package.ensures, c.requires.names) in
    rw is
    (name_marked (catalog_of c.args.task.now) (is_marked c.args.in_set.now) c.args.names.now c.args.pack c.package.result coming
    (package_is (catalog_of c.args.task.now) (is_marked c.args.in_set.now) c.args.pack c.package.result c.requires.a_package c.package.ensures) lt)
