use Rattle.std.proofs.Common.{map, arith}
use Rattle.solv_pool.specs.Prelude.{catalog_of, members}
use Rattle.solv_over.specs.Inner.Sums.{unmade_rules}
use Rattle.solv_over.proofs.Counted.{entry_more}
use Rattle.solv_over.proofs.places.rules_each.Goals as goal

pub loop-before-preserved : goal.loop-before-preserved
loop-before-preserved c =
    entry_more (unmade_rules (catalog_of c.args.task.now) c.args.left.now) c.loop-before.each.items (map (unmade_rules (catalog_of c.args.task.now) c.args.left.now) (members (catalog_of c.args.task.now))) c.push-in-loop-before.new.self.items
    c.unmade_rules.result c.loop-before.before c.count-before-end.result (omega arith) c.in_ok-push-2.ensures.items c.unmade_rules.ensures c.loop-before.invariant
