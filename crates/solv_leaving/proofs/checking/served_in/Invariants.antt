use Rattle.std.proofs.Common.{◌≡◌, length}
use Rattle.solv_pool.specs.Prelude.{catalog_of}
use Rattle.solv_leaving.specs.Inner.Checking.{AreServedIn}
use Rattle.solv_leaving.proofs.checking.served_in.Given as goal

abbrev pub invariant-loop-number : goal.invariant-loop-number
invariant-loop-number l = record {
  size : length l.made.items ≡ l.number;
  whole : AreServedIn (catalog_of l.leaves.task.now) l.leaves.left.now l.made.items;
}
