use Rattle.std.proofs.Common.{◌≡◌, ◌+◌, ◌++◌, ◌∷◌, [], ◌∙◌, ◌&&◌, ◌||◌, not, ap, length, arith, add-one}
use Rattle.std.specs.Prelude.{◌==◌, slice_index}
use Rattle.std.specs.List.{range_with_len}
use Rattle.solv_graph.specs.Inner.Graphs.{edge_to}
use Rattle.solv_trans.specs.Inner.Joining.{apart}
use Rattle.solv_trans.proofs.Joined.{adds_none, adds_more, adds_same}
use Rattle.solv_trans.proofs.Apart.{row_apart, all_apart}
use Rattle.solv_trans.proofs.counting.join_counting.Goals as goal
use Rattle.solv_list.proofs.Lists.{range_more}

pub loop-from-init : goal.loop-from-init
loop-from-init c = adds_none (λ p a b. p == a && apart c.args.classes.now.marks c.args.graph.now a b) c.args.counting.now

pub join_row-requires-clause-marks : goal.join_row-requires-clause-marks
join_row-requires-clause-marks c = omega (arith, c.loop-from.invariant.size, c.requires.marks)

pub join_row-requires-clause-from : goal.join_row-requires-clause-from
join_row-requires-clause-from c = omega (arith, c.loop-from.invariant.size, c.requires.size, c.count-from-end.ensures)

pub join_row-requires-clause-inside : goal.join_row-requires-clause-inside
join_row-requires-clause-inside c = λ q h. omega (arith, c.next.ensures.inside q h, c.loop-from.invariant.size, c.requires.size)

pub loop-from-preserved : goal.loop-from-preserved
loop-from-preserved c =
    let next : 0 + c.loop-from.from ≡ c.loop-from.from = omega arith in
    let range : range_with_len 0 (c.loop-from.from + 1) ≡ range_with_len 0 c.loop-from.from ++ c.loop-from.from ∷ [] =
    ap (range_with_len 0) (add-one c.loop-from.from) ∙ range_more 0 c.loop-from.from ∙ ap (λ k. range_with_len 0 c.loop-from.from ++ k ∷ []) next in
    rw range
    (adds_more (λ p a b. p == a && apart c.args.classes.now.marks c.args.graph.now a b) (range_with_len 0 c.loop-from.from) (c.loop-from.from ∷ []) c.args.counting.now c.loop-from.counting c.join_row.new.counting c.loop-from.invariant
    (adds_same (λ q a b. c.loop-from.from == a && (q == b && not (slice_index c.args.classes.now.marks a == slice_index c.args.classes.now.marks b))) (λ p a b. p == a && apart c.args.classes.now.marks c.args.graph.now a b) c.next.result.now (c.loop-from.from ∷ []) c.loop-from.counting c.join_row.new.counting
    (λ a b. row_apart c.args.classes.now.marks c.args.graph.now a b c.loop-from.from c.next.result.now c.next.ensures.row) c.in_ok-join_row.ensures))

pub returns-clause-joined : goal.returns-clause-joined
returns-clause-joined c = λ a b.
    let whole : length c.args.graph.now ≡ c.loop-from.from = omega (arith, c.count-from-end.ensures) in
    c.loop-from.invariant.edges a b ∙ ap (λ t. edge_to c.args.counting.now a b || t) (all_apart c.args.classes.now.marks c.args.graph.now a b c.loop-from.from whole)
