use Rattle.std.proofs.Common.{◌≡◌, ◌++◌, map, length}
use Rattle.std.specs.Vec.Iter.{into_iter_items, into_iter_len}
use Rattle.solv_over.specs.Inner.Places.{clause_place, step_at}
use Rattle.solv_over.proofs.moving.moved_steps.Given as goal

abbrev pub invariant-loop-step : goal.invariant-loop-step
invariant-loop-step l = record {
  left : l.moved.items ++ map (step_at (clause_place l.places)) (into_iter_items l.step-iterator) ≡ map (step_at (clause_place l.places)) (into_iter_items l.initial.step-iterator);
  long : into_iter_len l.step-iterator ≡ length (into_iter_items l.step-iterator);
}
