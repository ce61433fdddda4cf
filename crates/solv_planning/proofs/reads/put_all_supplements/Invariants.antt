use Rattle.std.proofs.Common.{◌≡◌, ◌<◌, ◌+◌, ◌-◌, ◌||◌, ℕ, false, length}
use Rattle.std.specs.List.{list_any, range_with_len}
use Rattle.std.specs.Option.{option_map_or}
use Rattle.solv_pool.specs.Prelude.{catalog_of, package_at, is_among}
use Rattle.solv_pool.specs.declared.job_marks.Marks.{Marks}
use Rattle.solv_trail.specs.Inner.Numbers.{has, room}
use Rattle.solv_questions.specs.Questions.{request_of}
use Rattle.solv_plan.specs.Inner.PlanOf.{is_supplement}
use Rattle.solv_planning.proofs.reads.put_all_supplements.Given as goal

abbrev pub invariant-loop-before : goal.invariant-loop-before
invariant-loop-before l = record {
  size : length l.set ≡ length l.initial.set;
  left : (marks : Marks) (k : ℕ) → k < room l.initial.set → (list_any (λ p. option_map_or (λ a. is_among a.supplements k) (package_at (catalog_of l.task) p) false) (range_with_len (l.before + 1) (l.before-end - l.before)) || has l.set k) ≡ (is_supplement (request_of l.task marks) k || has l.initial.set k);
}
