use Rattle.std.proofs.Common.{◌≡◌, take, arith}
use Rattle.solv_pack.specs.Inner.Layout.{words_of, rules_in, AreInside}
use Rattle.solv_pack.proofs.Blocks.{words_few}
use Rattle.solv_pack.proofs.Fronts.{last_is, front_kept, behind_front}
use Rattle.solv_pack.proofs.Views.{none}
use Rattle.solv_pack.proofs.memory.keep_first.Goals as goal

pub overflow_add-last : goal.overflow_add-last
overflow_add-last c =
    let last = last_is (words_of c.args.blocks.now.items) c.args.places.now.items c.deref.result.now c.args.count c.place_at-last.result none c.requires.inside c.requires.behind c.requires.held c.if-count-eq0.false c.deref.ensures.value (c.place_at-last.ensures none) in
    record { fits = omega (arith, last.inside.whole, words_few c.args.blocks.now.items c.place_at-last.result.block) }

pub trim-requires-2 : goal.trim-requires-2
trim-requires-2 c =
    (last_is (words_of c.args.blocks.now.items) c.args.places.now.items c.deref.result.now c.args.count c.place_at-last.result none c.requires.inside c.requires.behind c.requires.held c.if-count-eq0.false c.deref.ensures.value (c.place_at-last.ensures none)).inside.whole

module _ (c : goal.After-trim-2) where
  kept : (rules_in (words_of c.trim-2.new.blocks.items) (take c.args.count c.args.places.now.items) ≡ take c.args.count (rules_in (words_of c.args.blocks.now.items) c.args.places.now.items)) × AreInside (words_of c.trim-2.new.blocks.items) (take c.args.count c.args.places.now.items)
  kept =
      front_kept (words_of c.args.blocks.now.items) (words_of c.trim-2.new.blocks.items) c.args.places.now.items c.args.count c.place_at-last.result
      (last_is (words_of c.args.blocks.now.items) c.args.places.now.items c.deref.result.now c.args.count c.place_at-last.result none c.requires.inside c.requires.behind c.requires.held c.if-count-eq0.false c.deref.ensures.value (c.place_at-last.ensures none))
      c.requires.inside c.trim-2.ensures.words

pub returns-clause-rules : goal.returns-clause-rules
returns-clause-rules c = rw c.truncate-2.ensures.items (kept c).0

pub returns-clause-inside : goal.returns-clause-inside
returns-clause-inside c = rw c.truncate-2.ensures.items (kept c).1

pub returns-clause-behind : goal.returns-clause-behind
returns-clause-behind c = rw c.truncate-2.ensures.items (behind_front 0 0 c.args.count c.args.places.now.items c.requires.behind)
