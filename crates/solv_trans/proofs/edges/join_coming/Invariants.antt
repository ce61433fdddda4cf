use Rattle.std.proofs.Common.{take}
use Rattle.solv_pool.specs.Prelude.{catalog_of}
use Rattle.solv_trans.specs.Inner.Joining.{is_marked, Joins, to_coming}
use Rattle.solv_trans.proofs.edges.join_coming.Given as goal

abbrev pub invariant-loop-need : goal.invariant-loop-need
invariant-loop-need l = Joins (to_coming (catalog_of l.task) (is_marked l.in_set) l.pack) (take l.need-index l.need-items) l.initial.links.items l.links.items
