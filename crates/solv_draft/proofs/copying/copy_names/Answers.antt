use Rattle.solv_draft.proofs.OncePools.{name_added}
use Rattle.solv_draft.proofs.copying.copy_names.Goals as goal

pub loop-name-preserved : goal.loop-name-preserved
loop-name-preserved c = name_added c.args.pool.now c.loop-name.copy c.intern.new.self c.holds_each_once.ensures c.loop-name.name c.name.result.now c.loop-name.invariant c.name.ensures.held c.in-Ok.ensures.held
