use Rattle.std.proofs.Common.{◌≡◌, ℕ, subst, arith, length}
use Rattle.solv_watch.specs.Inner.Watching.{AreChainedTo}
use Rattle.solv_watch.proofs.Chained.{all_chained}
use Rattle.solv_watch.proofs.chaining.hang_all.Goals as goal

pub returns : goal.returns
returns c =
    let e : c.loop-rule.rule ≡ length c.args.rules.now.rules = omega (arith, c.len-count.ensures.count, c.loop-rule.auto.rule-end, c.loop-rule-test.false) in
    let P : ℕ → Type 0 = λ r. AreChainedTo c.args.packages r c.args.rules.now.rules c.loop-rule.chains.heads.items c.loop-rule.chains.links.items c.loop-rule.chains.watched.items in
    record { chained = all_chained c.args.packages c.args.rules.now.rules c.loop-rule.chains.heads.items c.loop-rule.chains.links.items c.loop-rule.chains.watched.items (subst P e c.loop-rule.invariant.chained) }
