use Rattle.std.proofs.Common.{◌≡◌, ◌<◌, ◌∙◌, ◌&&◌, ℕ, Bool, List, not, refl, sym, ap, length}
use Rattle.std.specs.Prelude.{◌==◌}
use Rattle.std.specs.List.{list_all}
use Rattle.solv_pool.specs.Prelude.{is_among}
use Rattle.solv_trail.specs.Asked.{is_enabled}
use Rattle.solv_core.specs.Inner.Meeting.{set_by}
use Rattle.solv_decide.specs.Deciding.{meets_all}
use Rattle.solv_list.proofs.Lists.{all_get}
use Rattle.solv_remedy.proofs.Tried.{owners_within}
use Rattle.solv_remedy.proofs.Shown.{shown_needed}
use Rattle.solv_remedy.proofs.showing.Sets.show.Goals as goal

pub is_met_by-requires : goal.is_met_by-requires
is_met_by-requires c =
    let s = c.args.setting.now in
    owners_within c.requires.of_.0 s.phases.now c.args.core.now.made s.book.now s.fixed.now c.requires.of_.1 (length c.deref-then-meets_others.result.now) (ap length c.deref-then-meets_others.ensures.value ∙ c.in_ok-others.ensures.size)

pub returns-then-is_met_by : goal.returns-then-is_met_by
returns-then-is_met_by c = λ shown r up.
    let s = c.args.setting.now in
    let others = c.deref-then-meets_others.result.now in
    let table = c.deref-then-meets_others-2.result.now in
    let meets : List Bool → Bool = λ t. meets_all r s.fixed.now (set_by t) in
    let each = ap (list_all (λ t. meets t.items)) c.deref-table-items.ensures.value ∙ c.requires.good r up in
    let first = ap meets c.deref-then-meets_others-2.ensures.value ∙ all_get (λ t. meets t.items) c.deref-table-items.result.now c.loop-table.table-index c.table-item.result each c.loop-table-test.true c.table-item.is in
    let on : (k : ℕ) → k < length s.fixed.now → is_enabled others k ≡ (is_among c.args.rules.now k && not (k == c.args.off)) = λ k less. ap (λ t. is_enabled t k) c.deref-then-meets_others.ensures.value ∙ c.in_ok-others.ensures.on k less in
    shown_needed r s.phases.now c.args.core.now.made s.book.now s.fixed.now up (set_by table) refl first others c.args.rules.now c.args.off on (sym (c.is_met_by.ensures r s.phases.now up.asked) ∙ c.if-is_met_by.true)
