use Rattle.std.proofs.Common.{ap, Err}
use Rattle.solv_deps.proofs.Entering.{relation_fits, relation_refused}
use Rattle.solv_deps.proofs.dependency.enter_relation.Goals as goal

pub returns-in-Ok-clause-entered : goal.returns-in-Ok-clause-entered
returns-in-Ok-clause-entered c =
    let e = c.in-Ok.ensures in
    relation_fits c.args.pool.now c.relation-entered.new.self c.args.node c.in-Ok.id c.holds_each_once.ensures.nodes_fit c.holds_each_once-2.ensures.nodes_once e.id e.known e.added (λ h. let k = e.full.1 h in cc)

pub returns-in-Err-clause-refused : goal.returns-in-Err-clause-refused
returns-in-Err-clause-refused c =
    let e = c.in-Err.ensures in
    rw c.refused.ensures.refusal (relation_refused c.args.pool.now c.args.node c.in-Err.fault (λ k. e.full.0 (ap Err k)) (λ k. e.no_name (ap Err k)))
