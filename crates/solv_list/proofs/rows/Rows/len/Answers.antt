use Rattle.std.proofs.Common.{◌∙◌, ap, sym, length}
use Rattle.solv_list.proofs.Layouts.{length-pieces}
use Rattle.solv_list.proofs.rows.Rows.len.Goals as goal

pub returns : goal.returns
returns g c = c.len.ensures ∙ c.self.inside.ends.ok.0 ∙ sym (length-pieces c.self.inside.items.items 0 c.self.inside.ends.items) ∙ ap length c.self.view_is
