use Rattle.std.proofs.Common.{length, nat_lt, ◌&&◌, arith, refl}
use Rattle.solv_deps.specs.Inner.Points.{rule_in}
use Rattle.solv_deps.proofs.Points.{leads_closed}
use Rattle.solv_deps.proofs.reading.close_rule.Goals as goal
use Rattle.solv_list.proofs.Booleans.{first_of_both}

pub returns : goal.returns
returns c =
    let n = length c.args.draft.now in
    let e = c.finish_rule-whole.ensures in
    record {
      leads = leads_closed c.args.draft.now c.finish_rule-whole.new.draft c.args.rule c.args.before c.finish_rule-whole.result _ c.in_default.not-InnerElse
          (first_of_both (rule_in n c.args.before) (rule_in n c.args.rule && nat_lt c.args.id n) c.requires.within) e.entered;
      extends = e.entered.extends;
      longer = omega (arith, e.longer);
      entered = refl;
    }
