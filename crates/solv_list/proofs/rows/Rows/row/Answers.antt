use Rattle.std.proofs.Common.{◌≡◌, ◌≤◌, ◌∙◌, [], length, arith, ap, sym, vec_len}
use Rattle.std.specs.Prelude.{slice_get, unwrap_or}
use Rattle.std.proofs.lemmas.Option.{slice_get_past}
use Rattle.solv_list.specs.Inner.Layout.{pieces}
use Rattle.solv_list.proofs.Layouts.{length-pieces}
use Rattle.solv_list.proofs.rows.Rows.row.Goals as goal

pub returns-then-row-len : goal.returns-then-row-len
returns-then-row-len g c =
    let rows = pieces c.self.inside.items.items 0 c.self.inside.ends.items in
    let many : length rows ≡ length c.self.inside.ends.items = length-pieces c.self.inside.items.items 0 c.self.inside.ends.items in
    let past : length rows ≤ c.args.row = (let long : vec_len c.self.inside.ends ≡ length c.self.inside.ends.items = c.self.inside.ends.ok.0 in let size : c.len.result ≡ vec_len c.self.inside.ends = c.len.ensures in let past : c.len.result ≤ c.args.row = c.if-row-len.true in omega arith) in
    sym (ap (λ l. unwrap_or (slice_get l c.args.row) []) (sym c.self.view_is) ∙ ap (λ o. unwrap_or o []) (slice_get_past rows c.args.row past))
