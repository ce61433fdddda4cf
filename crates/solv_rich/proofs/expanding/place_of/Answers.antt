use Rattle.std.proofs.Common.{◌≡◌, ◌∙◌, Some, sym, ap}
use Rattle.std.specs.Prelude.{slice_get}
use Rattle.std.proofs.lemmas.Bool.{eqb-true}
use Rattle.std.proofs.lemmas.List.{drop_all}
use Rattle.std.proofs.lemmas.Option.{slice_get-get_or}
use Rattle.std.specs.List.{list_any}
use Rattle.std.specs.Prelude.{◌==◌}
use Rattle.solv_rich.proofs.Around.{place_is, not_there}
use Rattle.solv_rich.proofs.expanding.place_of.Goals as goal

pub returns-then-eq-clause-without : goal.returns-then-eq-clause-without
returns-then-eq-clause-without c =
    let own : c.index-packs-place.result ≡ c.args.pack = eqb-true c.index-packs-place.result c.args.pack (sym c.eq.ensures ∙ c.if-eq.true) in
    let at : slice_get c.args.packs.now c.loop-place.place ≡ Some c.args.pack = slice_get-get_or c.args.packs.now c.loop-place.place c.index-packs-place.result c.loop-place-test.true ∙ ap Some (sym c.index-packs-place.is ∙ own) in
    place_is 0 c.args.packs.now c.loop-place.place c.args.pack c.requires at

pub returns-clause-without : goal.returns-clause-without
returns-clause-without c =
    not_there c.args.pack c.args.packs.now
    (sym c.loop-place.invariant ∙ ap (list_any (λ q. q == c.args.pack)) (drop_all c.loop-place.place c.args.packs.now c.loop-place-test.false))
