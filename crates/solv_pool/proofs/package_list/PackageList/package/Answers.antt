use Rattle.std.proofs.Common.{◌≡◌, ◌<◌, ◌∙◌, ap, sym, length, arith, Some}
use Rattle.std.proofs.lemmas.Option.{slice_get-get_or}
use Rattle.std.specs.Prelude.{slice_get}
use Rattle.solv_pool.proofs.Stored.{length-packages, package_there}
use Rattle.solv_pool.proofs.package_list.PackageList.package.Goals as goal

pub index-requires : goal.index-requires
index-requires c =
    let many : length c.args.self.now ≡ length c.self.inside.heads.items = ap length (sym c.self.view_is) ∙ length-packages c.self.inside.lists 0 c.self.inside.heads.items in
    let within : c.args.place < length c.args.self.now = c.requires in
    omega (arith, many, within, c.self.inside.heads.ok.0)

pub returns : goal.returns
returns c =
    let many : length c.args.self.now ≡ length c.self.inside.heads.items = ap length (sym c.self.view_is) ∙ length-packages c.self.inside.lists 0 c.self.inside.heads.items in
    let within : c.args.place < length c.args.self.now = c.requires in
    let head : slice_get c.self.inside.heads.items c.args.place ≡ Some c.index.result.now =
    slice_get-get_or c.self.inside.heads.items c.args.place c.index.result.now (omega (arith, many, within)) ∙ ap Some (sym c.index.ensures) in
    ap (λ l. slice_get l c.args.place) (sym c.self.view_is) ∙ package_there c.self.inside.lists c.self.inside.heads.items c.args.place c.index.result.now head
