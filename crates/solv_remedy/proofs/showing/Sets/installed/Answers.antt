use Rattle.std.proofs.Common.{◌∙◌, Bool, List, refl, sym, ap, length}
use Rattle.std.specs.List.{list_all}
use Rattle.solv_core.specs.Inner.Meeting.{set_by}
use Rattle.solv_decide.specs.Deciding.{meets_all}
use Rattle.solv_remedy.proofs.Tried.{owners_within}
use Rattle.solv_remedy.proofs.showing.Sets.installed.Goals as goal

pub is_met_by-requires : goal.is_met_by-requires
is_met_by-requires c = let s = c.args.setting.now in owners_within c.requires.0 s.phases.now c.args.core.now.made s.book.now s.fixed.now c.requires.1 (length s.fixed.now) refl

pub returns : goal.returns
returns c = λ r up.
    let s = c.args.setting.now in
    let meets : List Bool → Bool = λ t. meets_all r s.fixed.now (set_by t) in
    let now = ap meets (sym c.deref.ensures.value) ∙ sym (c.is_met_by.ensures r s.phases.now up.asked) ∙ c.if-not-is_met_by.false in
    c.in_ok-put.ensures (λ t. meets t.items) (ap (list_all (λ t. meets t.items)) c.new.ensures.items) now
