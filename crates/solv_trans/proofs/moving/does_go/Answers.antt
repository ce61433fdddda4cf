use Rattle.std.proofs.Common.{◌≡◌, ◌∙◌, ◌-◌, arith}
use Rattle.solv_trans.proofs.Asking.{name_below}
use Rattle.solv_trans.proofs.moving.does_go.Goals as goal

pub bounds-names-name-inside : goal.bounds-names-name-inside
bounds-names-name-inside c =
    let is : c.name.inside.0 ≡ c.package.result.name = c.name.view_is ∙ c.name-name.ensures in
    omega (arith, is, name_below c.args.task.now (c.args.pack - 1) c.package.result c.requires.over c.package.ensures, c.requires.names)
