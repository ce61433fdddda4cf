use Rattle.std.proofs.Common.{◌∙◌, ap, sym, length}
use Rattle.solv_pool.proofs.Stored.{length-packages}
use Rattle.solv_pool.proofs.package_list.PackageList.len.Goals as goal

pub returns : goal.returns
returns c = c.len.ensures ∙ c.self.inside.heads.ok.0 ∙ sym (length-packages c.self.inside.lists 0 c.self.inside.heads.items) ∙ ap length c.self.view_is
