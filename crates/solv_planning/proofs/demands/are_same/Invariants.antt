use Rattle.std.proofs.Common.{◌≡◌, take}
use Rattle.solv_planning.proofs.demands.are_same.Given as goal

abbrev pub invariant-loop-place : goal.invariant-loop-place
invariant-loop-place l = take l.place l.packs ≡ take l.place l.others
