use Rattle.std.proofs.Common.{◌≡◌, ℕ, ◌≤◌, ◌+◌, ◌*◌, [], map, take, drop, length}
use Rattle.std.specs.Prelude.{slice_index}
use Rattle.solv_derive.specs.Logs.{first_bad}
use Rattle.solv_derive.proofs.checker.check_steps.Given as goal

abbrev pub invariant-loop-i : goal.invariant-loop-i
invariant-loop-i l = record {
  size : length l.marks ≡ 2 * l.count + 2;
  upto : (k : ℕ) → slice_index l.marks k ≤ l.i;
  good : first_bad l.memory.rules (map (λ s. s.clause) (take l.i l.steps)) (drop l.i l.steps) ≡ first_bad l.memory.rules [] l.steps;
}
