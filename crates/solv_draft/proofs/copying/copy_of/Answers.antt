use Rattle.solv_draft.proofs.OncePools.{relation_added}
use Rattle.solv_draft.proofs.copying.copy_of.Goals as goal

pub loop-dep-preserved : goal.loop-dep-preserved
loop-dep-preserved c = relation_added c.args.pool.now c.loop-dep.copy c.relation.new.self c.holds_each_once.ensures c.loop-dep.dep c.dep.result c.loop-dep.invariant c.dep.ensures.node c.in-Ok.ensures.added
