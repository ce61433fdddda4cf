use Rattle.std.proofs.Common.{◌≤◌, arith, length}
use Rattle.solv_watch.proofs.Chained.{narrow_none}
use Rattle.solv_watch.proofs.chaining.chain_rule.Goals as goal

pub returns-clause-narrow : goal.returns-clause-narrow
returns-clause-narrow c =
    let wide : 2 ≤ length c.lits-clause.result.now = omega arith in
    narrow_none c.args.rules.now.rules c.args.rule c.lits-clause.result.now c.args.narrow.now.items c.lits-clause.ensures.held wide c.requires.narrow
