use Rattle.std.proofs.Common.{◌==◌}
use Rattle.solv_base.proofs.Places.{position_first}
use Rattle.solv_script.proofs.whole.namespace_names.NamespaceNames.place_of.Goals as goal

pub returns-clause-some : goal.returns-clause-some
returns-clause-some c = rw (← c.self.view_is) (position_first (λ other. c.args.name == other) c.self.inside.ids.keys c.get_index_of.result (rw c.number_of-id.ensures at c.get_index_of.ensures.index))
