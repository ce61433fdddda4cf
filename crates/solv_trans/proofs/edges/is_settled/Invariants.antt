use Rattle.std.proofs.Common.{◌≡◌, false, take}
use Rattle.std.specs.List.{list_any}
use Rattle.solv_pool.specs.Prelude.{catalog_of}
use Rattle.solv_trans.specs.Inner.Joining.{is_marked, settles}
use Rattle.solv_trans.proofs.edges.is_settled.Given as goal

abbrev pub invariant-loop-other : goal.invariant-loop-other
invariant-loop-other l = list_any (settles (catalog_of l.task) (is_marked l.in_set) l.pack) (take l.other-index l.providers) ≡ false
