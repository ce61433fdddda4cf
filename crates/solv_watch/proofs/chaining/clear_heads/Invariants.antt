use Rattle.std.proofs.Common.{◌≡◌, length}
use Rattle.solv_watch.specs.Inner.Watching.{AreHeadsFrom}
use Rattle.solv_watch.proofs.chaining.clear_heads.Given as goal

abbrev pub invariant-loop-lit : goal.invariant-loop-lit
invariant-loop-lit l = record {
  each : AreHeadsFrom 0 l.fn.heads l.watched → AreHeadsFrom l.lit-index l.heads l.watched;
  same_length : length l.heads ≡ length l.fn.heads;
}
