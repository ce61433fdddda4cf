use Rattle.std.proofs.Common.{◌≡◌, ◌∙◌, Bool, List, sym, ap, subst, length, rules}
use Rattle.solv_trail.specs.Asked.{is_enabled}
use Rattle.solv_core.specs.declared.refuting.RefutedRule.{RefutedRule}
use Rattle.solv_remedy.specs.Inner.Correcting.{AreRefutedBy}
use Rattle.solv_remedy.specs.Inner.Trying.{firm_but}
use Rattle.solv_remedy.proofs.correcting.begin.Goals as goal

pub refuted_others-requires-clause-size : goal.refuted_others-requires-clause-size
refuted_others-requires-clause-size c = ap length c.deref.ensures.value ∙ c.in_ok-parted.ensures.size

pub returns-clause-parted : goal.returns-clause-parted
returns-clause-parted c = λ r up needed.
    let s = c.args.setting.now in
    let way = c.args.way.now in
    let core = c.args.core.now.made in
    let H : List Bool → Type 0 = λ h. AreRefutedBy r core (is_enabled h) c.in_ok-refuted.refuted in
    let L : List RefutedRule → Type 0 = λ l. AreRefutedBy r core (is_enabled c.in_ok-parted.parted.held.items) l in
    let items : c.into_vec.result.items ≡ c.in_ok-refuted.refuted = search rules in
    c.in_ok-leave_each.ensures.parted r core s.fixed.now (firm_but r way.conflict.now.rules way.off) c.args.rules.now (c.in_ok-parted.ensures.parted r core up needed) (subst L (sym items) (subst H c.deref.ensures.value (c.in_ok-refuted.ensures.refuted r up)))
