use Rattle.std.proofs.Common.{◌≡◌, ◌<◌, ◌∙◌, ℕ, Bool, List, true, sym, ap, length, rules}
use Rattle.std.proofs.Math.Path.{fun_ext}
use Rattle.std.proofs.lemmas.Bool.{false≢true}
use Rattle.solv_pool.specs.Prelude.{is_among, is_fact, is_over}
use Rattle.solv_trail.specs.Asked.{is_enabled, set_of}
use Rattle.solv_core.specs.GoodTrails.{facts_of}
use Rattle.solv_core.specs.Inner.Meeting.{set_by}
use Rattle.solv_decide.specs.Deciding.{meets_all}
use Rattle.solv_remedy.proofs.Shown.{met_over}
use Rattle.solv_remedy.proofs.Tried.{owners_within}
use Rattle.solv_remedy.proofs.showing.met_by.Goals as goal

pub is_met_by-requires : goal.is_met_by-requires
is_met_by-requires c =
    let s = c.args.setting.now in
    owners_within c.requires.0 s.phases.now c.args.core.now.made s.book.now s.fixed.now c.requires.1 (length c.deref-3.result.now) (ap length c.deref-3.ensures.value ∙ c.in_ok-enabled.ensures.size)

pub returns-clause-met : goal.returns-clause-met
returns-clause-met c = λ r up over k x at h.
    let s = c.args.setting.now in
    let events = c.args.trail.now.events in
    let enabled = c.deref-3.result.now in
    let table = c.deref-4.result.now in
    let known = set_of (is_fact (facts_of events)) in
    let over_ : is_over c.packages.result (facts_of events) ≡ true = ap (λ n. is_over n (facts_of events)) c.packages.ensures ∙ over in
    let same : set_by table ≡ known = ap set_by c.deref-4.ensures.value ∙ fun_ext (c.in_ok-table.ensures over_) in
    let met : meets_all r enabled known ≡ true = ap (meets_all r enabled) (sym same) ∙ sym (c.is_met_by.ensures r s.phases.now up.asked) ∙ c.if-not-is_met_by.false in
    let on : (k : ℕ) → k < length s.fixed.now → is_enabled enabled k ≡ is_among c.in_ok-met.met.items k = λ k less. ap (λ l. is_enabled l k) c.deref-3.ensures.value ∙ c.in_ok-enabled.ensures.on k less ∙ ap (λ l. is_among l k) c.deref-2.ensures.value in
    met_over r s.phases.now c.args.core.now.made s.book.now s.fixed.now up enabled c.in_ok-met.met.items known on met k x at h
