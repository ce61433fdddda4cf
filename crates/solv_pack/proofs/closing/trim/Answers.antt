use Rattle.std.proofs.Common.{◌≡◌, ◌+◌, ◌∙◌, ap, sym, ◌++◌, take, drop, length}
use Rattle.std.specs.Prelude.{slice_set}
use Rattle.std.specs.List.{take-map}
use Rattle.std.proofs.VecSteps.Gaps.{all_new}
use Rattle.solv_pack.specs.Inner.Layout.{words_of, block_at}
use Rattle.solv_pack.proofs.closing.trim.Goals as goal

pub returns-then-block-len-clause-words : goal.returns-then-block-len-clause-words
returns-then-block-len-clause-words c =
    let now : take c.args.blocks.now.len (c.cut_at.new.blocks ++ drop (length c.cut_at.new.blocks) c.args.blocks.now.items) ≡ c.cut_at.new.blocks = all_new c.args.blocks.now.len c.args.blocks.now.items c.cut_at.new.blocks (c.cut_at.auto.blocks ∙ c.as_mut_slice.ensures.len) in
    ap (λ t. words_of t) (c.truncate.ensures.items ∙ ap (λ t. take (c.args.block + 1) t) now)
    ∙ sym (take-map (λ b. b.items) (c.args.block + 1) c.cut_at.new.blocks)
    ∙ ap (λ t. take (c.args.block + 1) t) (c.cut_at.ensures.words ∙ ap (λ t. slice_set (words_of t) c.args.block (take c.args.start (block_at (words_of t) c.args.block))) c.as_mut_slice.ensures.value)
