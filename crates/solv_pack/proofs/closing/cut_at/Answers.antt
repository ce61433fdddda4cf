use Rattle.std.proofs.Common.{◌∙◌, ap, sym, take}
use Rattle.std.specs.Prelude.{slice_set}
use Rattle.solv_pack.specs.Inner.Layout.{words_of}
use Rattle.solv_pack.proofs.Blocks.{words_set, block_is, rooms_set}
use Rattle.solv_pack.proofs.closing.cut_at.Goals as goal

pub returns-clause-words : goal.returns-clause-words
returns-clause-words c =
    words_set c.args.blocks.now c.args.block c.cut.new.self
    ∙ ap (λ t. slice_set (words_of c.args.blocks.now) c.args.block t) (c.cut.ensures.items ∙ ap (λ t. take c.args.start t) (sym (block_is c.args.blocks.now c.args.block c.index-blocks-block.result c.requires.there)))

pub returns-clause-rooms : goal.returns-clause-rooms
returns-clause-rooms c = rooms_set c.args.blocks.now c.args.block c.cut.new.self c.index-blocks-block.result c.cut.ensures.room
