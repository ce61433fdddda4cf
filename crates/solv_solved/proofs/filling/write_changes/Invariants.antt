use Rattle.std.proofs.Common.{◌≡◌, ◌++◌, length, drop, map, take}
use Rattle.solv_solved.specs.Fillings.{change_row}
use Rattle.solv_solved.proofs.filling.write_changes.Given as goal

abbrev pub invariant-loop-place : goal.invariant-loop-place
invariant-loop-place l = record {
  left : take l.place l.into ++ map change_row (drop l.place l.changes) ≡ map change_row l.changes;
  long : length l.into ≡ length l.changes;
}
