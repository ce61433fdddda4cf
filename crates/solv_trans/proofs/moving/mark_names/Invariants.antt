use Rattle.std.proofs.Common.{◌≡◌, ◌||◌, ◌-◌, ◌+◌, ℕ, length}
use Rattle.std.specs.List.{list_any, range_with_len}
use Rattle.solv_pool.specs.Prelude.{catalog_of, packages}
use Rattle.solv_trans.specs.Inner.Joining.{is_marked, comes_named}
use Rattle.solv_trans.proofs.moving.mark_names.Given as goal

abbrev pub invariant-loop-before : goal.invariant-loop-before
invariant-loop-before l = record {
  left : (n : ℕ) → (is_marked l.names n || list_any (comes_named (catalog_of l.task) (is_marked l.in_set) n) (range_with_len (l.before + 1) (length l.task.universe.packages - l.before))) ≡ list_any (comes_named (catalog_of l.task) (is_marked l.in_set) n) (packages (catalog_of l.task));
}
