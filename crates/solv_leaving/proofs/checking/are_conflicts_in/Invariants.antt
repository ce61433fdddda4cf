use Rattle.std.proofs.Common.{take}
use Rattle.solv_pool.specs.Prelude.{catalog_of}
use Rattle.solv_leaving.specs.Inner.Checking.{AllIn, conflicts_over}
use Rattle.solv_leaving.proofs.checking.are_conflicts_in.Given as goal

abbrev pub invariant-loop-dep : goal.invariant-loop-dep
invariant-loop-dep l = AllIn l.looked.left.now (conflicts_over (catalog_of l.looked.task.now)) (take l.dep-index l.deps)
