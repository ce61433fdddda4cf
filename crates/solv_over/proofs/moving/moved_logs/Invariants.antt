use Rattle.std.proofs.Common.{◌≡◌, ◌++◌, map, length}
use Rattle.std.specs.Vec.Iter.{into_iter_items, into_iter_len}
use Rattle.solv_over.specs.Inner.Places.{clause_place, log_at}
use Rattle.solv_over.proofs.moving.moved_logs.Given as goal

abbrev pub invariant-loop-log : goal.invariant-loop-log
invariant-loop-log l = record {
  left : l.moved.items ++ map (log_at (clause_place l.places)) (into_iter_items l.log-iterator) ≡ map (log_at (clause_place l.places)) (into_iter_items l.initial.log-iterator);
  long : into_iter_len l.log-iterator ≡ length (into_iter_items l.log-iterator);
}
