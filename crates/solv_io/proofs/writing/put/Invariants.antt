use Rattle.std.proofs.Common.{◌≡◌, ◌≤◌, ◌-◌, [], length, take}
use Rattle.solv_io.specs.Writes.{then_bytes}
use Rattle.solv_io.proofs.writing.put.Given as goal

abbrev pub invariant-loop-done : goal.invariant-loop-done
invariant-loop-done g l = record {
  in_range : l.done ≤ length l.piece;
  so_far : g.S.Sink.written l.sink ≡ then_bytes (g.S.Sink.written l.initial.sink) (take l.done l.piece);
  calm : g.S.Sink.faults l.sink ≡ g.S.Sink.faults l.initial.sink;
  untouched : l.piece ≡ [] → l.sink ≡ l.initial.sink;
}

abbrev pub decreases-loop-done : goal.decreases-loop-done
decreases-loop-done g l = length l.piece - l.done
