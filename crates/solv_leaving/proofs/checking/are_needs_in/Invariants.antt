use Rattle.std.proofs.Common.{take}
use Rattle.solv_pool.specs.Prelude.{catalog_of}
use Rattle.solv_leaving.specs.Inner.Checking.{AllIn, need_asks_for}
use Rattle.solv_leaving.proofs.checking.are_needs_in.Given as goal

abbrev pub invariant-loop-need : goal.invariant-loop-need
invariant-loop-need l = AllIn l.looked.left.now (need_asks_for (catalog_of l.looked.task.now)) (take l.need-index l.needs)
