use Rattle.std.proofs.Common.{sym}
use Rattle.solv_pool.specs.Prelude.{is_refuted}
use Rattle.solv_watch.proofs.Pairs.{none_of_two}
use Rattle.solv_watch.proofs.spares.spare_beside.Goals as goal

pub returns-then-clause-eq2 : goal.returns-then-clause-eq2
returns-then-clause-eq2 c = sym (none_of_two (is_refuted c.args.known.now.lits) c.args.other c.requires.other.own c.args.clause.now c.if-clause-eq2.true c.requires.other.two c.requires.other.now_false)
