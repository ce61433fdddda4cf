use Rattle.std.proofs.Common.{◌≡◌, ◌<◌, ◌+◌, ◌∷◌, ◌∙◌, ap, true, false, drop, length, get_or, refl, sym, arith}
use Rattle.std.proofs.lemmas.List.{drop_more, length-set, length-map}
use Rattle.solv_pack.specs.declared.place.Place.{Place}
use Rattle.solv_pack.specs.Inner.Packing.{kept}
use Rattle.solv_pack.specs.Inner.Layout.{words_of, rooms_of, rules_in}
use Rattle.solv_pack.proofs.Blocks.{words_few}
use Rattle.solv_pack.proofs.ClosedUp.{next_inside, next_point, closing_past, closing_kept}
use Rattle.solv_pack.proofs.closing.close_up.Goals as goal
use Rattle.solv_pack.proofs.closing.close_up.Goals.{then-keeps, else-keeps}

abbrev none : Place
none = record { block = 0; len = 0; start = 0 }

pub settle-to_block-requires-clause-inside : goal.settle-to_block-requires-clause-inside
settle-to_block-requires-clause-inside c =
    let h = c.loop-rule.invariant.closing in
    next_inside (kept c.args.keep.now (rules_in (words_of c.args.blocks.now) c.args.places.now)) (words_of c.loop-rule.blocks) c.loop-rule.places c.args.keep.now c.loop-rule.rule c.loop-rule.count c.loop-rule.block c.loop-rule.start h c.place_at-from.result none (omega (arith, h.each, c.loop-rule-test.true)) (sym (c.place_at-from.ensures none))

pub settle-to_block-requires-clause-point : goal.settle-to_block-requires-clause-point
settle-to_block-requires-clause-point c =
    let h = c.loop-rule.invariant.closing in
    next_point (kept c.args.keep.now (rules_in (words_of c.args.blocks.now) c.args.places.now)) (words_of c.loop-rule.blocks) c.loop-rule.places c.args.keep.now c.loop-rule.rule c.loop-rule.count c.loop-rule.block c.loop-rule.start h c.place_at-from.result none (omega (arith, h.each, c.loop-rule-test.true)) (sym (c.place_at-from.ensures none))

pub of-requires-clause-block : goal.of-requires-clause-block
of-requires-clause-block c =
    let h = c.loop-rule.invariant.closing in
    let inside = next_inside (kept c.args.keep.now (rules_in (words_of c.args.blocks.now) c.args.places.now)) (words_of c.loop-rule.blocks) c.loop-rule.places c.args.keep.now c.loop-rule.rule c.loop-rule.count c.loop-rule.block c.loop-rule.start h c.place_at-from.result none (omega (arith, h.each, c.loop-rule-test.true)) (sym (c.place_at-from.ensures none)) in
    omega (arith, c.settle-to_block.ensures.target.point.before, inside.there, length-map c.loop-rule.blocks (λ b. b.items), c.loop-rule.auto.blocks, c.requires.few)

pub of-requires-clause-start : goal.of-requires-clause-start
of-requires-clause-start c = omega (arith, c.settle-to_block.ensures.moved.reach, words_few c.settle-to_block.new.blocks c.settle-to_block.result.0)

pub of-requires-clause-len : goal.of-requires-clause-len
of-requires-clause-len c =
    let h = c.loop-rule.invariant.closing in
    let inside = next_inside (kept c.args.keep.now (rules_in (words_of c.args.blocks.now) c.args.places.now)) (words_of c.loop-rule.blocks) c.loop-rule.places c.args.keep.now c.loop-rule.rule c.loop-rule.count c.loop-rule.block c.loop-rule.start h c.place_at-from.result none (omega (arith, h.each, c.loop-rule-test.true)) (sym (c.place_at-from.ensures none)) in
    inside.short

pub overflow_add-start : goal.overflow_add-start
overflow_add-start c = record { fits = omega (arith, c.settle-to_block.ensures.moved.reach, words_few c.settle-to_block.new.blocks c.settle-to_block.result.0) }

pub loop-rule-preserved : goal.loop-rule-preserved
loop-rule-preserved c =
    let h = c.loop-rule.invariant.closing in
    let whole = kept c.args.keep.now (rules_in (words_of c.args.blocks.now) c.args.places.now) in
    let within : c.loop-rule.rule < length c.loop-rule.places = omega (arith, h.each, c.loop-rule-test.true) in
    elim c.if-keeps.branch [
      | then-keeps w ↦
          let now : drop c.loop-rule.rule c.args.keep.now ≡ true ∷ drop (c.loop-rule.rule + 1) c.args.keep.now = drop_more c.args.keep.now c.loop-rule.rule false c.loop-rule-test.true ∙ ap (λ b. b ∷ drop (c.loop-rule.rule + 1) c.args.keep.now) w.if-keeps.true in
          rw (w.blocks-is, w.places-is, w.count-is, w.block-is, w.start-is, w.of.ensures) (record {
            closing = closing_kept whole (words_of c.loop-rule.blocks) c.loop-rule.places c.args.keep.now c.loop-rule.rule c.loop-rule.count c.loop-rule.block c.loop-rule.start h w.place_at-from.result none within (sym (w.place_at-from.ensures none)) now (words_of w.settle-to_block.new.blocks) (rooms_of c.loop-rule.blocks) w.settle-to_block.result.0 w.settle-to_block.result.1 w.settle-to_block.ensures.target w.settle-to_block.ensures.moved;
            places_same = length-set c.loop-rule.places c.loop-rule.count _ ∙ c.loop-rule.invariant.places_same;
            rooms_same = w.settle-to_block.ensures.rooms ∙ c.loop-rule.invariant.rooms_same;
          })
      | else-keeps w ↦
          let now : drop c.loop-rule.rule c.args.keep.now ≡ false ∷ drop (c.loop-rule.rule + 1) c.args.keep.now = drop_more c.args.keep.now c.loop-rule.rule false c.loop-rule-test.true ∙ ap (λ b. b ∷ drop (c.loop-rule.rule + 1) c.args.keep.now) w.if-keeps.false in
          rw (w.blocks-is, w.places-is, w.count-is, w.block-is, w.start-is) (record {
            closing = closing_past whole (words_of c.loop-rule.blocks) c.loop-rule.places c.args.keep.now c.loop-rule.rule c.loop-rule.count c.loop-rule.block c.loop-rule.start h (get_or c.loop-rule.places c.loop-rule.rule none) none within refl now;
            places_same = c.loop-rule.invariant.places_same;
            rooms_same = c.loop-rule.invariant.rooms_same;
          })
    ]
