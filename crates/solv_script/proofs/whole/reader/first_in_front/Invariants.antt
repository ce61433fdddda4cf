use Rattle.std.proofs.Common.{◌≡◌, ◌∷◌, ◌++◌, ◌≤◌, [], length, take, drop}
use Rattle.solv_script.specs.Rounds.{first_round}
use Rattle.solv_script.specs.Inner.Turns.{with_front}
use Rattle.solv_script.proofs.whole.reader.first_in_front.Given as goal

abbrev pub invariant-loop-place : goal.invariant-loop-place
invariant-loop-place l = record {
  within : l.place ≤ length l.script.later;
  packages : l.script ≡ with_front l.fn.script (first_round l.script) l.script.later;
  rounds : take l.place l.script.later ++ first_round l.script ∷ drop l.place l.script.later ≡ l.fn.script.later ++ first_round l.fn.script ∷ [];
}

abbrev pub decreases-loop-place : goal.decreases-loop-place
decreases-loop-place l = l.place
