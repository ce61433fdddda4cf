use Rattle.std.proofs.Common.{◌≡◌, ◌≤◌, ◌∙◌, ap, sym, length, arith}
use Rattle.solv_pool.proofs.Stored.{length-packages, packages_cut}
use Rattle.solv_pool.proofs.package_list.PackageList.cut.Goals as goal

pub cut-requires : goal.cut-requires
cut-requires c =
    let many : length c.args.self.now ≡ length c.self.inside.heads.items = ap length (sym c.self.view_is) ∙ length-packages c.self.inside.lists 0 c.self.inside.heads.items in
    let within : c.args.count ≤ length c.args.self.now = c.requires in
    omega (arith, many, within, c.self.invariant.relations)

pub cut-requires-2 : goal.cut-requires-2
cut-requires-2 c =
    let many : length c.args.self.now ≡ length c.self.inside.heads.items = ap length (sym c.self.view_is) ∙ length-packages c.self.inside.lists 0 c.self.inside.heads.items in
    let within : c.args.count ≤ length c.args.self.now = c.requires in
    omega (arith, many, within, c.self.invariant.needs)

pub cut-requires-3 : goal.cut-requires-3
cut-requires-3 c =
    let many : length c.args.self.now ≡ length c.self.inside.heads.items = ap length (sym c.self.view_is) ∙ length-packages c.self.inside.lists 0 c.self.inside.heads.items in
    let within : c.args.count ≤ length c.args.self.now = c.requires in
    omega (arith, many, within, c.self.invariant.files)

pub invariant_of-self : goal.invariant_of-self
invariant_of-self c =
    let many : length c.args.self.now ≡ length c.self.inside.heads.items = ap length (sym c.self.view_is) ∙ length-packages c.self.inside.lists 0 c.self.inside.heads.items in
    let within : c.args.count ≤ length c.args.self.now = c.requires in
    rw (c.truncate.ensures.items, c.cut.ensures, c.cut-2.ensures, c.cut-3.ensures)
    (packages_cut c.self.inside.lists c.self.inside.heads.items c.args.count c.self.invariant (omega (arith, many, within))).of_all

pub returns : goal.returns
returns c =
    let many : length c.args.self.now ≡ length c.self.inside.heads.items = ap length (sym c.self.view_is) ∙ length-packages c.self.inside.lists 0 c.self.inside.heads.items in
    let within : c.args.count ≤ length c.args.self.now = c.requires in
    rw (c.truncate.ensures.items, c.cut.ensures, c.cut-2.ensures, c.cut-3.ensures, ← c.self.view_is)
    (packages_cut c.self.inside.lists c.self.inside.heads.items c.args.count c.self.invariant (omega (arith, many, within))).packages
