use Rattle.std.proofs.Common.{◌≡◌, ◌∙◌, ◌≤◌, Bool, List, sym, subst, arith, rules}
use Rattle.solv_trail.specs.Asked.{is_enabled}
use Rattle.solv_core.specs.declared.refuting.RefutedRule.{RefutedRule}
use Rattle.solv_decide.specs.Deciding.{IsSolution}
use Rattle.solv_remedy.specs.Inner.Correcting.{open_count, AreRefutedBy}
use Rattle.solv_remedy.proofs.Growing.{looked}
use Rattle.solv_remedy.proofs.correcting.Parted.take_in.Goals as goal

pub returns-clause-few : goal.returns-clause-few
returns-clause-few c = let a = c.in_ok-leave_each.ensures.few in let b = c.in_ok-hold_met.ensures.few in omega (arith, a, b)

pub returns-clause-parted : goal.returns-clause-parted
returns-clause-parted c = λ r firm rules_ up p found refuted.
    let s = c.args.setting.now in
    let core = c.args.core.now.made in
    let old = c.args.self.now in
    let items : c.into_vec.result.items ≡ c.args.refuted = search rules in
    let L : List RefutedRule → Type 0 = λ l. AreRefutedBy r core (is_enabled old.held.items) l in
    let S : List Bool → Type 0 = λ h. IsSolution r h c.args.trail.now in
    looked r core s.fixed.now firm rules_ c.hold_met.new.self _ (c.in_ok-hold_met.ensures.parted r firm rules_ up
    (c.in_ok-leave_each.ensures.parted r core s.fixed.now firm rules_ p (subst L (sym items) refuted)) (subst S (sym c.in_ok-leave_each.ensures.held) found))
