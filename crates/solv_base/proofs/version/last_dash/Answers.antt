use Rattle.std.proofs.Common.{sym}
use Rattle.solv_base.proofs.LastDash.{before_dash, after_dash, no_dash}
use Rattle.solv_base.proofs.version.last_dash.Goals as goal

pub returns-then-text-n-eq45-clause-before : goal.returns-then-text-n-eq45-clause-before
returns-then-text-n-eq45-clause-before c =
    before_dash c.args.text.now c.loop-n.n c.loop-n.invariant.in_range c.loop-n-test.true c.if-text-n-eq45.true c.loop-n.invariant.none_behind

pub returns-then-text-n-eq45-clause-after : goal.returns-then-text-n-eq45-clause-after
returns-then-text-n-eq45-clause-after c =
    after_dash c.args.text.now c.loop-n.n c.loop-n.invariant.in_range c.loop-n-test.true c.if-text-n-eq45.true c.loop-n.invariant.none_behind

pub returns-clause-found : goal.returns-clause-found
returns-clause-found c = sym (no_dash c.args.text.now c.loop-n.n c.loop-n-test.false c.loop-n.invariant.none_behind)
