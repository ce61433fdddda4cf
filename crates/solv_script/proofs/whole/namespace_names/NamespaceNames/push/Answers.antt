use Rattle.std.proofs.Common.{refl}
use Rattle.solv_script.proofs.whole.namespace_names.NamespaceNames.push.Goals as goal

pub returns : goal.returns
returns c = rw (c.in-Ok.ensures.keys, c.number_of.ensures, c.self.view_is, c.requires) refl
