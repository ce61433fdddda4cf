use Rattle.std.proofs.Common.{◌≡◌, ◌≤◌, ◌<◌, ℕ, true, take}
use Rattle.std.specs.Prelude.{pos}
use Rattle.solv_pool.specs.Prelude.{is_fact}
use Rattle.solv_plan.proofs.floors.Floor.lowered.Given as goal

abbrev pub invariant-loop-place : goal.invariant-loop-place
invariant-loop-place l = record {
  low : l.low ≤ l.fn.self.number;
  seen : (k : ℕ) → k < l.low → is_fact (take l.place l.known.lits) (pos k) ≡ true → is_fact (take l.fn.self.seen l.known.lits) (pos k) ≡ true;
}
