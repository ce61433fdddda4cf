use Rattle.std.proofs.Common.{◌≡◌, ◌++◌, map, length}
use Rattle.std.specs.Vec.Iter.{into_iter_items, into_iter_len}
use Rattle.solv_over.specs.Inner.Places.{clause_place, rule_place, solution_at}
use Rattle.solv_over.proofs.moving.moved_solutions.Given as goal

abbrev pub invariant-loop-solution : goal.invariant-loop-solution
invariant-loop-solution l = record {
  left : l.moved.items ++ map (solution_at (clause_place l.places) (rule_place l.places)) (into_iter_items l.solution-iterator) ≡ map (solution_at (clause_place l.places) (rule_place l.places)) (into_iter_items l.initial.solution-iterator);
  long : into_iter_len l.solution-iterator ≡ length (into_iter_items l.solution-iterator);
}
