use Rattle.std.proofs.Common.{sym, length, nat_lt}
use Rattle.solv_deps.specs.Inner.Drafts.{said}
use Rattle.solv_deps.specs.Inner.Points.{rule_in, rules_in}
use Rattle.solv_deps.proofs.Points.{without_middle}
use Rattle.solv_deps.proofs.reading.go_on.Goals as goal

pub returns-in-Nothing-clause-goes : goal.returns-in-Nothing-clause-goes
returns-in-Nothing-clause-goes c =
    let n = length c.args.draft.now in
    rw c.in-Nothing.is (record {
      is = sym (c.begin_rule.ensures.goes (said c.args.draft.now));
      inside = c.begin_rule.ensures.inside n (without_middle (rules_in n c.args.outer.now) (rule_in n c.args.rule) (nat_lt c.args.id n) c.requires.within);
    })
