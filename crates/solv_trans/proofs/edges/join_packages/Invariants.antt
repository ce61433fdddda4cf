use Rattle.std.specs.List.{range_with_len}
use Rattle.solv_pool.specs.Prelude.{catalog_of}
use Rattle.solv_trans.specs.Inner.Joining.{is_marked, Joins, owned_by}
use Rattle.solv_trans.proofs.edges.join_packages.Given as goal

abbrev pub invariant-loop-before : goal.invariant-loop-before
invariant-loop-before l = Joins (owned_by (catalog_of l.task) (is_marked l.in_set)) (range_with_len 1 l.before) l.initial.links.items l.links.items
