use Rattle.std.proofs.Common.{length, nat_lt, ◌&&◌, Some, refl}
use Rattle.solv_deps.specs.Inner.Points.{rule_in, rules_in}
use Rattle.solv_deps.proofs.Points.{stands_sign}
use Rattle.solv_deps.proofs.reading.take_sign.Goals as goal
use Rattle.solv_list.proofs.Booleans.{first_of_both}

pub returns-else-count-ge64-clause-ok : goal.returns-else-count-ge64-clause-ok
returns-else-count-ge64-clause-ok c =
    let old = c.args.draft.now in
    let n = length old in
    stands_sign old c.go_on.new.draft c.args.outer.now c.args.count.now c.args.rule c.args.op c.in-Some.next (Some c.in-Some.next) _
    (first_of_both (rules_in n c.args.outer.now) (rule_in n c.args.rule && nat_lt c.args.id n) c.requires.within) c.requires.room c.if-count-ge64.false
    c.in-Some.ensures.extends refl c.in-Some.ensures.longer c.in-Some.ensures.goes
