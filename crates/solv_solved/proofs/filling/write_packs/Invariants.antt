use Rattle.std.proofs.Common.{◌≡◌, ◌++◌, length, drop, take}
use Rattle.solv_solved.proofs.filling.write_packs.Given as goal

abbrev pub invariant-loop-place : goal.invariant-loop-place
invariant-loop-place l = record {
  left : take l.place l.into ++ drop l.place l.packs ≡ l.packs;
  long : length l.into ≡ length l.packs;
}
