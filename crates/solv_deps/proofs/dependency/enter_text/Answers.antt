use Rattle.solv_deps.proofs.Entering.{text_fits}
use Rattle.solv_deps.proofs.dependency.enter_text.Goals as goal

pub returns-in-Ok-clause-entered : goal.returns-in-Ok-clause-entered
returns-in-Ok-clause-entered c =
    text_fits c.args.pool.now c.intern.new.self c.args.text.now c.in-Ok.id c.holds_each_once.ensures.names_fit (λ h. let k = c.in-Ok.ensures.full.1 h in cc) c.in-Ok.ensures.id c.in-Ok.ensures.held
