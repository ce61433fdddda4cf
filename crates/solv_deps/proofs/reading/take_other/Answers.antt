use Rattle.std.proofs.Common.{◌∙◌, sym, length, nat_lt, ◌&&◌}
use Rattle.solv_deps.specs.Inner.Drafts.{said}
use Rattle.solv_deps.specs.Inner.Points.{rule_in, rules_in}
use Rattle.solv_deps.proofs.Points.{stands_closed}
use Rattle.solv_deps.proofs.reading.take_other.Goals as goal
use Rattle.solv_list.proofs.Booleans.{first_of_both}

pub returns-in-Some-clause-ok : goal.returns-in-Some-clause-ok
returns-in-Some-clause-ok c =
    let old = c.args.draft.now in
    let n = length old in
    let e = c.close_rule.ensures in
    stands_closed old c.close_rule.new.draft c.args.outer.now c.pop.new.self c.args.count c.args.rule (said old c.args.id) c.args.word.now c.in-Some.before c.close_rule.result
    c.in-Some.ensures.some (first_of_both (rules_in n c.args.outer.now) (rule_in n c.args.rule && nat_lt c.args.id n) c.requires.within) c.requires.room c.requires.few
    (sym c.closes_one.ensures ∙ c.if-closes_one.true) e.extends e.longer e.entered e.leads
