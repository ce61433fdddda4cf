use Rattle.std.proofs.Common.{ap, ◌≡◌, ◌≤◌, ◌<◌, ◌∙◌, sym, slice_get, Some, None}
use Rattle.std.proofs.lemmas.Bool.{leb-true, leb-false}
use Rattle.std.proofs.lemmas.Option.{slice_get-get_or, slice_get_past}
use Rattle.solv_prov.specs.declared.ranking.Placed.{Placed}
use Rattle.solv_prov.specs.Inner.Ranking.{height}
use Rattle.solv_prov.proofs.Placing.{holds_there}
use Rattle.solv_prov.proofs.ranking.is_high.Goals as goal

pub returns-in-Some-clause-high : goal.returns-in-Some-clause-high
returns-in-Some-clause-high c h x here =
    let there : slice_get c.args.order.now c.args.at ≡ Some c.in-Some.placed.now = slice_get-get_or c.args.order.now c.args.at c.in-Some.placed.now c.in-Some.ensures.lookup.3.0 ∙ ap (λ z. Some z) (sym c.in-Some.ensures.lookup.1) in
    holds_there (λ (z : Placed). c.args.level ≤ height c.args.pool.now c.args.want.now z) c.args.order.now c.args.at c.in-Some.placed.now x there (rw (← c.level_at.ensures) (leb-true _ _ h)) here

pub returns-in-Some-clause-low : goal.returns-in-Some-clause-low
returns-in-Some-clause-low c h x here =
    let there : slice_get c.args.order.now c.args.at ≡ Some c.in-Some.placed.now = slice_get-get_or c.args.order.now c.args.at c.in-Some.placed.now c.in-Some.ensures.lookup.3.0 ∙ ap (λ z. Some z) (sym c.in-Some.ensures.lookup.1) in
    holds_there (λ (z : Placed). height c.args.pool.now c.args.want.now z < c.args.level) c.args.order.now c.args.at c.in-Some.placed.now x there (rw (← c.level_at.ensures) (leb-false _ _ h)) here

pub returns-in-None-clause-high : goal.returns-in-None-clause-high
returns-in-None-clause-high c h x here =
    let none : slice_get c.args.order.now c.args.at ≡ None = slice_get_past c.args.order.now c.args.at c.in-None.ensures.lookup.3 in
    let gone : None ≡ Some x = sym none ∙ here in
    absurd (cc)
