use Rattle.std.proofs.Common.{◌≡◌, ◌++◌, drop, length, map, take}
use Rattle.solv_pool.proofs.package_list.push_rows.Given as goal

abbrev pub invariant-loop-row : goal.invariant-loop-row
invariant-loop-row l = record {
  all : l.relations ++ map (λ row. row.now) (drop l.row-index l.rows) ≡ l.initial.relations ++ map (λ row. row.now) l.rows;
  kept : take (length l.initial.relations) l.relations ≡ l.initial.relations;
}
