use Rattle.std.proofs.Common.{rules, refl, ap, sym, ◌∙◌, ◌≡◌, ◌<◌, length, slice_get, Some, true}
use Rattle.std.proofs.lemmas.Option.{slice_get-get_or}
use Rattle.solv_prov.specs.declared.capability.Provide.{Provide}
use Rattle.solv_prov.specs.Inner.Ranking.{has_evr}
use Rattle.solv_prov.proofs.Placing.{holds_there, one_rank}
use Rattle.solv_prov.proofs.ranking.put_rank.Goals as goal

pub returns-then-place-len-clause-ranked : goal.returns-then-place-len-clause-ranked
returns-then-place-len-clause-ranked c =
    let y = c.in-Some.placed.now in
    let in_order : slice_get c.args.order.now c.args.at ≡ Some y = slice_get-get_or c.args.order.now c.args.at y c.in-Some.ensures.lookup.3.0 ∙ ap (λ z. Some z) (sym c.in-Some.ensures.lookup.1) in
    let within : y.place < length c.args.ranks.now.items = search rules in
    let there : slice_get c.args.provides.now y.place ≡ Some c.in-Some-get.provide.now = slice_get-get_or c.args.provides.now y.place c.in-Some-get.provide.now c.in-Some-get.ensures.lookup.3.0 ∙ ap (λ z. Some z) (sym c.in-Some-get.ensures.lookup.1) in
    let has : has_evr c.in-Some-get.provide.now.version y.evr ≡ true = search rules in
    one_rank c.args.provides.now c.args.order.now c.args.ranks.now.items c.args.at y.place y c.requires within in_order refl
    (λ x here. holds_there (λ (z : Provide). has_evr z.version y.evr ≡ true) c.args.provides.now y.place c.in-Some-get.provide.now x there has here)
