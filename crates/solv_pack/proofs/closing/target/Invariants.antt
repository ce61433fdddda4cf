use Rattle.std.proofs.Common.{◌≡◌, ◌≤◌, ◌-◌}
use Rattle.solv_pack.specs.Inner.Layout.{words_of}
use Rattle.solv_pack.specs.Inner.Moving.{IsPoint}
use Rattle.solv_pack.proofs.closing.target.Given as goal

abbrev pub invariant-loop-at : goal.invariant-loop-at
invariant-loop-at l = record {
  point : IsPoint (words_of l.blocks) l.from l.at l.behind;
  later : l.block ≤ l.at;
  same : l.block ≡ l.at → l.start ≤ l.behind;
}

abbrev pub decreases-loop-at : goal.decreases-loop-at
decreases-loop-at l = l.from.block - l.at
