use Rattle.std.proofs.Common.{◌≡◌, ◌<◌, ◌≤◌, ℕ, false, length}
use Rattle.solv_pool.specs.Prelude.{catalog_of, is_installed}
use Rattle.solv_planning.proofs.keeps.last_installed.Given as goal

abbrev pub invariant-loop-last : goal.invariant-loop-last
invariant-loop-last l = record {
  within : l.last ≤ length l.task.universe.packages;
  none : (p : ℕ) → l.last < p → p ≤ length l.task.universe.packages → is_installed (catalog_of l.task) p ≡ false;
}

abbrev pub decreases-loop-last : goal.decreases-loop-last
decreases-loop-last l = l.last
