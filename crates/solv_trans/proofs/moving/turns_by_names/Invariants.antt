use Rattle.std.proofs.Common.{◌≡◌, ◌<◌, ℕ, length}
use Rattle.solv_graph.specs.Inner.Orders.{turn_at}
use Rattle.solv_pool.specs.Prelude.{catalog_of}
use Rattle.solv_trans.specs.Inner.Joining.{is_marked, turn_of}
use Rattle.solv_trans.proofs.moving.turns_by_names.Given as goal

abbrev pub invariant-loop-pack : goal.invariant-loop-pack
invariant-loop-pack l = record {
  size : length l.turns.items ≡ l.pack;
  each : (p : ℕ) → p < l.pack → turn_at l.turns.items p ≡ turn_of (catalog_of l.task) (is_marked l.in_set) p;
}
