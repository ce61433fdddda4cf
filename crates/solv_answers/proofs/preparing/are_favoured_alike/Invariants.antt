use Rattle.std.proofs.Common.{◌≡◌, take}
use Rattle.solv_answers.proofs.preparing.are_favoured_alike.Given as goal

abbrev pub invariant-loop-place : goal.invariant-loop-place
invariant-loop-place l = take l.place l.favours ≡ take l.place l.others
