use Rattle.std.proofs.Common.{◌∙◌, length, arith, ap, length-drop}
use Rattle.std.proofs.lemmas.List.{take_rest}
use Rattle.solv_io.proofs.Pieces.{then_bytes-take}
use Rattle.solv_io.proofs.writing.put.Goals as goal

pub loop-done-preserved : goal.loop-done-preserved
loop-done-preserved g c =
    let h = c.in_ok-done.ensures in
    let n = c.in_ok-done.field-0 in
    let done = c.loop-done.done in
    let piece = c.args.piece.now in
    let took = rw (take_rest piece done) at h.took in
    let count = rw (take_rest piece done, length-drop done piece) at h.count in
    record {
      in_range = omega arith;
      so_far = took ∙ (rw c.loop-done.invariant.so_far (then_bytes-take (g.S.Sink.written c.args.sink.now) piece done n));
      calm = h.faults ∙ c.loop-done.invariant.calm;
      untouched = λ empty. absurd (let none = ap length empty in omega arith);
    }
