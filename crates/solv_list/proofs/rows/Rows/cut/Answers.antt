use Rattle.std.proofs.Common.{◌≡◌, ◌≤◌, ◌∙◌, length, sym, ap, arith}
use Rattle.solv_list.specs.Inner.Layout.{start_of}
use Rattle.solv_list.proofs.Layouts.{length-pieces, rows_cut}
use Rattle.solv_list.proofs.rows.Rows.cut.Goals as goal

pub begin-requires : goal.begin-requires
begin-requires g c =
    let many : length c.args.self.now ≡ length c.self.inside.ends.items = ap length (sym c.self.view_is) ∙ length-pieces c.self.inside.items.items 0 c.self.inside.ends.items in
    let within : c.args.count ≤ length c.args.self.now = c.requires in
    rw c.deref.ensures.value (omega (arith, many, within))

pub invariant_of-self : goal.invariant_of-self
invariant_of-self g c =
    let many : length c.args.self.now ≡ length c.self.inside.ends.items = ap length (sym c.self.view_is) ∙ length-pieces c.self.inside.items.items 0 c.self.inside.ends.items in
    let within : c.args.count ≤ length c.args.self.now = c.requires in
    let end : c.begin.result ≡ start_of 0 c.self.inside.ends.items c.args.count = rw c.deref.ensures.value at c.begin.ensures in
    rw (c.truncate.ensures.items, c.truncate-2.ensures.items)
    (rows_cut c.self.inside.items.items c.self.inside.ends.items c.args.count c.begin.result c.self.invariant (omega (arith, many, within)) end).in_order

pub returns : goal.returns
returns g c =
    let many : length c.args.self.now ≡ length c.self.inside.ends.items = ap length (sym c.self.view_is) ∙ length-pieces c.self.inside.items.items 0 c.self.inside.ends.items in
    let within : c.args.count ≤ length c.args.self.now = c.requires in
    let end : c.begin.result ≡ start_of 0 c.self.inside.ends.items c.args.count = rw c.deref.ensures.value at c.begin.ensures in
    rw (c.truncate.ensures.items, c.truncate-2.ensures.items, ← c.self.view_is)
    (rows_cut c.self.inside.items.items c.self.inside.ends.items c.args.count c.begin.result c.self.invariant (omega (arith, many, within)) end).rows
