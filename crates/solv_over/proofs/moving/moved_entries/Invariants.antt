use Rattle.std.proofs.Common.{◌≡◌, ◌++◌, map, length}
use Rattle.std.specs.Vec.Iter.{into_iter_items, into_iter_len}
use Rattle.solv_over.specs.Inner.Places.{clause_place, entry_at}
use Rattle.solv_over.proofs.moving.moved_entries.Given as goal

abbrev pub invariant-loop-entry : goal.invariant-loop-entry
invariant-loop-entry l = record {
  left : l.moved.items ++ map (entry_at (clause_place l.places)) (into_iter_items l.entry-iterator) ≡ map (entry_at (clause_place l.places)) (into_iter_items l.initial.entry-iterator);
  long : into_iter_len l.entry-iterator ≡ length (into_iter_items l.entry-iterator);
}
