use Rattle.std.proofs.Common.{◌+◌, length, ◌<◌, arith, refl, ap, ◌∙◌}
use Rattle.std.specs.List.{copy_within}
use Rattle.std.proofs.lemmas.List.{length-map}
use Rattle.solv_pack.proofs.Blocks.{words_changed, rooms_set}
use Rattle.solv_pack.proofs.closing.slide.Goals as goal

pub returns-clause-words : goal.returns-clause-words
returns-clause-words c =
    let held : c.args.from.block < length c.args.blocks.now = omega (arith, c.requires.inside.there, length-map c.args.blocks.now (λ b. b.items)) in
    words_changed c.args.blocks.now c.args.from.block c.index-blocks-from.result c.words_mut-words.result.now c.copy_within.new.self _ held c.words_mut-words.ensures.value c.copy_within.ensures.len
    (λ e. c.copy_within.ensures.after ∙ ap (λ t. copy_within t c.args.from.start (c.args.from.start + c.args.from.len) c.args.start) e)

pub returns-clause-rooms : goal.returns-clause-rooms
returns-clause-rooms c = rooms_set c.args.blocks.now _ _ c.index-blocks-from.result refl
