use Rattle.std.proofs.Common.{◌≡◌, ◌+◌, ◌∙◌, ap, ◌++◌, take, drop, length}
use Rattle.std.specs.Prelude.{slice_set}
use Rattle.std.proofs.VecSteps.Gaps.{all_new}
use Rattle.solv_pack.specs.Inner.Packing.{kept}
use Rattle.solv_pack.specs.Inner.Layout.{words_of, rules_in, AreInside, block_at}
use Rattle.solv_pack.proofs.Changes.{all_kept}
use Rattle.solv_pack.proofs.memory.keep_rules.Goals as goal

module _ (c : goal.After-trim) where
  blocks_are : take c.args.blocks.now.len (c.close_up-count.new.blocks ++ drop (length c.close_up-count.new.blocks) c.args.blocks.now.items) ≡ c.close_up-count.new.blocks
  blocks_are = all_new c.args.blocks.now.len c.args.blocks.now.items c.close_up-count.new.blocks (c.close_up-count.auto.blocks ∙ c.as_mut_slice.ensures.len)

  places_are : c.truncate.new.self.items ≡ take c.close_up-count.result.0 c.close_up-count.new.places
  places_are = c.truncate.ensures.items ∙ ap (λ t. take c.close_up-count.result.0 t) (all_new c.args.places.now.len c.args.places.now.items c.close_up-count.new.places (c.close_up-count.auto.places ∙ c.as_mut_slice-2.ensures.len))

  all : (rules_in (words_of c.trim.new.blocks.items) (take c.close_up-count.result.0 c.close_up-count.new.places) ≡ rules_in (words_of c.close_up-count.new.blocks) (take c.close_up-count.result.0 c.close_up-count.new.places)) × AreInside (words_of c.trim.new.blocks.items) (take c.close_up-count.result.0 c.close_up-count.new.places)
  all =
      let b = c.close_up-count.result.1 in let s = c.close_up-count.result.2 in
      all_kept (words_of c.close_up-count.new.blocks) (words_of c.trim.new.blocks.items) b s (c.trim.ensures.words ∙ ap (λ t. take (b + 1) (slice_set (words_of t) b (take s (block_at (words_of t) b)))) blocks_are)
      c.close_up-count.ensures.closed.written (take c.close_up-count.result.0 c.close_up-count.new.places) c.close_up-count.ensures.closed.before c.close_up-count.ensures.closed.inside

pub returns-clause-rules : goal.returns-clause-rules
returns-clause-rules c =
    rw (places_are c) ((all c).0 ∙ c.close_up-count.ensures.closed.are
    ∙ ap (λ t. kept c.args.keep.now (rules_in (words_of t) c.as_mut_slice-2.result.now)) c.as_mut_slice.ensures.value
    ∙ ap (λ t. kept c.args.keep.now (rules_in (words_of c.args.blocks.now.items) t)) c.as_mut_slice-2.ensures.value)

pub returns-clause-inside : goal.returns-clause-inside
returns-clause-inside c = rw (places_are c) (all c).1
