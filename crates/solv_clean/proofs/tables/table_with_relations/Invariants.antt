use Rattle.std.proofs.Common.{◌≡◌, ◌++◌, true}
use Rattle.std.specs.Prelude.{replicate}
use Rattle.solv_clean.proofs.tables.table_with_relations.Given as goal

abbrev pub invariant-loop-made : goal.invariant-loop-made
invariant-loop-made l = l.table.items ≡ l.in_set ++ replicate l._made true
