use Rattle.std.proofs.Common.{◌≡◌, ◌∙◌, ℕ, List, true, sym, ap, subst, rules}
use Rattle.std.specs.Prelude.{filter}
use Rattle.std.specs.List.{list_all}
use Rattle.solv_pool.specs.Prelude.{is_among, is_fact, is_over}
use Rattle.solv_pool.proofs.Members.{all_at, among_has}
use Rattle.solv_trail.specs.Asked.{is_enabled, set_of}
use Rattle.solv_core.specs.GoodTrails.{facts_of}
use Rattle.solv_remedy.specs.Inner.Trying.{MeetsOn}
use Rattle.solv_remedy.proofs.Growing.{held_more, met_solvable, open_few}
use Rattle.solv_remedy.proofs.Rising.{all_filtered}
use Rattle.solv_remedy.proofs.correcting.Parted.hold_met.Goals as goal

pub returns-clause-few : goal.returns-clause-few
returns-clause-few c = open_few c.args.self.now c.hold.new.self c.hold.ensures.same c.deref-3.result.now c.hold.ensures.opened

pub returns-clause-parted : goal.returns-clause-parted
returns-clause-parted c = λ r firm rules_ up p found.
    let s = c.args.setting.now in
    let core = c.args.core.now.made in
    let old = c.args.self.now in
    let events = c.args.trail.now.events in
    let more = c.deref-3.result.now in
    let same : more ≡ c.in_ok-met.met.items = c.deref-3.ensures.value in
    let test = is_enabled old.open.items in
    let all : list_all test c.deref-2.result.now ≡ true = ap (list_all test) (c.deref-2.ensures.value ∙ c.in_ok-some.ensures) ∙ all_filtered test c.deref.result.now in
    let open_ : list_all test more ≡ true = ap (list_all test) same ∙ c.in_ok-met.ensures.among test all in
    let over = ap (λ n. is_over n (facts_of events)) up.asked.packages ∙ found.good.over in
    let M : List ℕ → Type 0 = λ l. MeetsOn r (is_among l) (set_of (is_fact (facts_of events))) in
    held_more r core s.fixed.now firm rules_ more old c.hold.new.self p (λ k h. all_at test more k open_ (among_has more k h)) c.hold.ensures
    (met_solvable more old c.hold.new.self c.hold.ensures r c.args.trail.now found (subst M (sym same) (c.in_ok-met.ensures.met r up over)))
