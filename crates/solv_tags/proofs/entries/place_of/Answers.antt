use Rattle.std.proofs.Common.{◌<◌, ◌+◌, length, sym, arith}
use Rattle.std.proofs.lemmas.List.{length-take-le}
use Rattle.solv_tags.proofs.Noted.{once_in, below_in, found_front, found_behind, none_found}
use Rattle.solv_tags.proofs.entries.place_of.Goals as goal

pub returns-then-count-le-FIRST-clause-once : goal.returns-then-count-le-FIRST-clause-once
returns-then-count-le-FIRST-clause-once c = once_in c.args.dep c.args.needs.now c.place_in.result c.requires.apart c.place_in.ensures.some

pub slice_bounds-place_in-end : goal.slice_bounds-place_in-end
slice_bounds-place_in-end c = sym (length-take-le 32 c.args.needs.now (omega (arith, c.if-count-le-FIRST.false)))

pub returns-in-Some-clause-below : goal.returns-in-Some-clause-below
returns-in-Some-clause-below c = below_in c.args.dep c.in-Some.place c.args.needs.now (found_front c.args.dep c.in-Some.place c.args.needs.now c.requires.apart c.in-Some.ensures.some)

pub returns-in-Some-clause-once : goal.returns-in-Some-clause-once
returns-in-Some-clause-once c = found_front c.args.dep c.in-Some.place c.args.needs.now c.requires.apart c.in-Some.ensures.some

pub overflow_add-result : goal.overflow_add-result
overflow_add-result c =
    let at = rw c.number_of.ensures at c.in-Some-place.ensures.some in
    let below : 32 + c.in-Some-place.place < length c.args.needs.now
    = below_in c.args.dep (32 + c.in-Some-place.place) c.args.needs.now (found_behind c.args.dep c.args.tail.now c.args.needs.now c.requires c.if-count-le-FIRST.false c.in-Some-place.place at) in
    grind (arith, below)

pub returns-in-Some-place-clause-below : goal.returns-in-Some-place-clause-below
returns-in-Some-place-clause-below c =
    let at = rw c.number_of.ensures at c.in-Some-place.ensures.some in
    below_in c.args.dep (32 + c.in-Some-place.place) c.args.needs.now (found_behind c.args.dep c.args.tail.now c.args.needs.now c.requires c.if-count-le-FIRST.false c.in-Some-place.place at)

pub returns-in-Some-place-clause-once : goal.returns-in-Some-place-clause-once
returns-in-Some-place-clause-once c =
    let at = rw c.number_of.ensures at c.in-Some-place.ensures.some in
    found_behind c.args.dep c.args.tail.now c.args.needs.now c.requires c.if-count-le-FIRST.false c.in-Some-place.place at

pub returns-in-None-clause-none : goal.returns-in-None-clause-none
returns-in-None-clause-none c =
    none_found c.args.dep c.args.tail.now c.args.needs.now c.requires c.if-count-le-FIRST.false c.in_default.ensures.none (rw c.number_of.ensures at c.in-None.ensures.none)
