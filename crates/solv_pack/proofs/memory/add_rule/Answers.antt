use Rattle.std.proofs.Common.{◌≡◌, ◌∙◌, ap, sym, ◌++◌, take, drop, length, arith}
use Rattle.std.proofs.VecSteps.Gaps.{all_new}
use Rattle.std.proofs.lemmas.List.{length-map}
use Rattle.solv_pack.specs.Inner.Layout.{words_of}
use Rattle.solv_pack.proofs.Blocks.{words_few}
use Rattle.solv_pack.proofs.Changes.{IsAdded, added}
use Rattle.solv_pack.proofs.memory.add_rule.Goals as goal

pub of-requires-clause-start : goal.of-requires-clause-start
of-requires-clause-start c = omega (arith, c.append-place.ensures.start, words_few c.as_mut_slice.result.now c.append-place.result.block)

module _ (c : goal.After-push_reserved) where
  done : IsAdded (words_of c.args.blocks.now.items) (words_of c.append-place.new.blocks) c.args.places.now.items c.append-place.result c.args.lits.now
  done = added (words_of c.args.blocks.now.items) (words_of c.as_mut_slice.result.now) (words_of c.append-place.new.blocks) c.append-place.result c.args.lits.now c.args.places.now.items
      (ap (λ t. words_of t) c.as_mut_slice.ensures.value) (c.append-place.ensures.block ∙ sym (length-map c.as_mut_slice.result.now (λ b. b.items))) c.append-place.ensures.start c.append-place.ensures.len c.append-place.ensures.words
      c.requires.inside c.requires.behind c.requires.short

  now : take c.args.blocks.now.len (c.append-place.new.blocks ++ drop (length c.append-place.new.blocks) c.args.blocks.now.items) ≡ c.append-place.new.blocks
  now = all_new c.args.blocks.now.len c.args.blocks.now.items c.append-place.new.blocks (c.append-place.auto.blocks ∙ c.as_mut_slice.ensures.len)

pub returns-clause-rules : goal.returns-clause-rules
returns-clause-rules c = rw (now c, c.push_reserved.ensures.items, c.of.ensures) (done c).rules

pub returns-clause-inside : goal.returns-clause-inside
returns-clause-inside c = rw (now c, c.push_reserved.ensures.items, c.of.ensures) (done c).inside

pub returns-clause-behind : goal.returns-clause-behind
returns-clause-behind c = rw (c.push_reserved.ensures.items, c.of.ensures) (done c).behind
