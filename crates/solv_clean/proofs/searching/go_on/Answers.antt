use Rattle.std.proofs.Common.{◌≡◌, ◌<◌, ◌∷◌, [], length, arith}
use Rattle.std.specs.Prelude.{slice_index}
use Rattle.std.proofs.lemmas.List.{get_or_read}
use Rattle.solv_pool.specs.Prelude.{catalog_of}
use Rattle.solv_clean.specs.Inner.Finding.{Finds, next_to}
use Rattle.solv_clean.proofs.Walked.{going_start, going_visit, going_done, going_end}
use Rattle.solv_clean.proofs.searching.go_on.Goals as goal

pub loop-place-init : goal.loop-place-init
loop-place-init c = (going_start (next_to (catalog_of c.args.members.now.task.now) c.args.members.now.in_set.now c.args.supplements.now) c.args.may.now c.args.starts.now c.args.marks.now c.args.found.now.items c.requires.begun, c.requires.passed)

pub returns-then-place-len : goal.returns-then-place-len
returns-then-place-len c =
    going_done (next_to (catalog_of c.args.members.now.task.now) c.args.members.now.in_set.now c.args.supplements.now) c.args.may.now c.args.starts.now c.loop-place.marks c.loop-place.found.items c.loop-place.place (search (arith, c.if-place-len.true)) c.loop-place.invariant.0

pub loop-place-preserved : goal.loop-place-preserved
loop-place-preserved c =
    let lt : c.loop-place.place < length c.loop-place.found.items = search (arith, c.if-place-len.false) in
    let at : c.index-vertex.result.now ≡ slice_index c.loop-place.found.items c.loop-place.place = get_or_read c.loop-place.found.items c.loop-place.place c.index-vertex.result.now lt c.index-vertex.ensures 0 in
    let v : Finds c.args.may.now (next_to (catalog_of c.args.members.now.task.now) c.args.members.now.in_set.now c.args.supplements.now) (slice_index c.loop-place.found.items c.loop-place.place ∷ []) c.loop-place.marks c.loop-place.found.items c.mark_needed.new.marks c.mark_needed.new.found.items =
    rw at at c.in_ok-mark_needed.ensures.found in
    (going_visit (next_to (catalog_of c.args.members.now.task.now) c.args.members.now.in_set.now c.args.supplements.now) c.args.may.now c.args.starts.now c.loop-place.marks c.loop-place.found.items c.loop-place.place c.mark_needed.new.marks c.mark_needed.new.found.items lt v c.loop-place.invariant.0, c.in_ok-mark_needed.ensures.passed)

pub returns : goal.returns
returns c =
    going_end (next_to (catalog_of c.args.members.now.task.now) c.args.members.now.in_set.now c.args.supplements.now) c.args.may.now c.args.starts.now c.loop-place.marks c.loop-place.found.items c.loop-place.place (omega arith) c.loop-place.invariant.0
