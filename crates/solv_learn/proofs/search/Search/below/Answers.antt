use Rattle.std.proofs.Common.{ℕ, ◌+◌, ◌∙◌, arith}
use Rattle.std.specs.Prelude.{reverse}
use Rattle.solv_learn.specs.Inner.Marks.{has, has_place}
use Rattle.solv_learn.proofs.Refuting.{refutes_skip}
use Rattle.solv_learn.proofs.search.Search.below.Goals as goal

pub loop-place-preserved : goal.loop-place-preserved
loop-place-preserved c =
    let p : ℕ = c.in-Some.place in
    let last = c.in-Some.ensures in
    let i = c.loop-place.invariant in
    let low = last.1 in
    let within = i.within in
    record {
      count = c.resolve.ensures.count ∙ i.count;
      within = omega arith;
      places = c.in_ok-resolve.ensures.places i.places;
      refutes = λ look kept finds loose start.
          c.in_ok-resolve.ensures.refutes look kept finds (loose p (omega arith))
          (refutes_skip look kept (has c.loop-place.self.marked) (has_place c.loop-place.self.marked) c.args.known.now.lits (reverse c.loop-place.self.hints.items) c.loop-place.ahead (p + 1) (omega arith) i.places
          (λ k h g. last.3 k (omega arith) g) (i.refutes look kept finds loose start));
      in_use = λ used r h. c.in_ok-resolve.ensures.in_use used r (i.in_use used r h);
      nothing_kept = c.in_ok-resolve.ensures.nothing_kept (omega arith) ∙ i.nothing_kept;
    }

pub returns-clause-refutes : goal.returns-clause-refutes
returns-clause-refutes c = λ look kept finds loose start.
    let i = c.loop-place.invariant in
    refutes_skip look kept (has c.loop-place.self.marked) (has_place c.loop-place.self.marked) c.args.known.now.lits (reverse c.loop-place.self.hints.items) c.loop-place.ahead 0 (omega arith) i.places
    c.in_default.ensures (i.refutes look kept finds loose start)
