use Rattle.solv_base.proofs.Identity.{texts_differ, trees_differ}
use Rattle.solv_base.proofs.interning.Pool.tells_apart.Goals as goal

pub returns-clause-names : goal.returns-clause-names
returns-clause-names c = texts_differ c.args.self.now c.holds_each_once.ensures

pub returns-clause-relations : goal.returns-clause-relations
returns-clause-relations c = trees_differ c.args.self.now c.holds_each_once.ensures
