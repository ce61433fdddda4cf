use Rattle.std.proofs.Common.{◌≡◌, ◌≤◌, ◌∷◌, ◌∙◌, [], Bool, List, true, sym, ap, subst, arith, rules}
use Rattle.std.specs.Vec.Iter.{into_iter_items}
use Rattle.solv_trail.specs.Asked.{is_enabled}
use Rattle.solv_core.specs.declared.refuting.RefutedRule.{RefutedRule}
use Rattle.solv_remedy.specs.Inner.Correcting.{and_one, open_count, AreRefutedBy, IsRefutedOn}
use Rattle.solv_remedy.proofs.Growing.{dropped_more, open_few}
use Rattle.solv_remedy.proofs.correcting.Parted.leave_each.Goals as goal

pub loop-one-preserved-in-Continue-1 : goal.loop-one-preserved-in-Continue-1
loop-one-preserved-in-Continue-1 c =
    let inv = c.loop-one.invariant in
    let one : RefutedRule = c.in-Some.one in
    let old = c.loop-one.self in
    let d = c.in_ok-leave.ensures in
    let next : into_iter_items c.loop-one.one-iterator ≡ one ∷ into_iter_items c.next.new.self = search rules in
    let less = open_few old c.leave.new.self d.same (one.rule ∷ []) d.opened in
    let before = inv.few in
    record {
      held = d.held ∙ inv.held;
      few = omega (arith, less, before);
      parted = λ r core fixed firm rules_ p refuted.
          let P : List RefutedRule → Type 0 = λ l. AreRefutedBy r core (is_enabled c.args.self.now.held.items) l in
          let H : List Bool → Type 0 = λ h. IsRefutedOn r core (and_one (is_enabled h) one.rule) one.log in
          dropped_more r core fixed firm rules_ one old c.leave.new.self (inv.parted r core fixed firm rules_ p refuted) (sym c.is_open.ensures ∙ c.if-is_open.true) d (subst H (sym inv.held) (subst P next (inv.left_ r core refuted)).0);
      left_ = λ r core all. let P : List RefutedRule → Type 0 = λ l. AreRefutedBy r core (is_enabled c.args.self.now.held.items) l in (subst P next (inv.left_ r core all)).1;
      long = search rules;
    }

pub loop-one-preserved : goal.loop-one-preserved
loop-one-preserved c =
    let inv = c.loop-one.invariant in
    let one : RefutedRule = c.in-Some.one in
    let next : into_iter_items c.loop-one.one-iterator ≡ one ∷ into_iter_items c.next.new.self = search rules in
    record {
      held = inv.held;
      few = inv.few;
      parted = inv.parted;
      left_ = λ r core all. let P : List RefutedRule → Type 0 = λ l. AreRefutedBy r core (is_enabled c.args.self.now.held.items) l in (subst P next (inv.left_ r core all)).1;
      long = search rules;
    }

pub returns-clause-parted : goal.returns-clause-parted
returns-clause-parted c = λ r core fixed firm rules_ p refuted.
    let same : into_iter_items c.into_iter-one-iterator.result ≡ c.args.refuted.items = search rules in
    let P : List RefutedRule → Type 0 = λ l. AreRefutedBy r core (is_enabled c.args.self.now.held.items) l in
    c.loop-one.invariant.parted r core fixed firm rules_ p (subst P (sym same) refuted)
