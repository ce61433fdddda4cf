use Rattle.std.proofs.Common.{◌≡◌, ◌++◌, map, length}
use Rattle.std.specs.Vec.Iter.{into_iter_items, into_iter_len}
use Rattle.solv_over.specs.Inner.Places.{clause_place, problem_at, rule_place}
use Rattle.solv_over.proofs.moving.moved_problems.Given as goal

abbrev pub invariant-loop-problem : goal.invariant-loop-problem
invariant-loop-problem l = record {
  left : l.moved.items ++ map (problem_at (clause_place l.places) (rule_place l.places)) (into_iter_items l.problem-iterator) ≡ map (problem_at (clause_place l.places) (rule_place l.places)) (into_iter_items l.initial.problem-iterator);
  long : into_iter_len l.problem-iterator ≡ length (into_iter_items l.problem-iterator);
}
