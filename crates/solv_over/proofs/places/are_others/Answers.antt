use Rattle.std.proofs.Common.{◌∙◌, ◌&&◌, not, sym, ap}
use Rattle.solv_pool.specs.Prelude.{is_among}
use Rattle.solv_over.proofs.Ascending.{others_by}
use Rattle.solv_over.proofs.places.are_others.Goals as goal

pub returns-then-is_among : goal.returns-then-is_among
returns-then-is_among c =
    sym (others_by c.args.pack c.args.packs.now ∙ ap (λ b. not b && not (is_among c.args.packs.now c.args.pack)) (sym c.is_among.ensures ∙ c.if-is_among.true))

pub returns : goal.returns
returns c =
    ap not c.is_among-2.ensures
    ∙ sym (others_by c.args.pack c.args.packs.now ∙ ap (λ b. not b && not (is_among c.args.packs.now c.args.pack)) (sym c.is_among.ensures ∙ c.if-is_among.false))
