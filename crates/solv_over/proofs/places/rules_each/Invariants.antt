use Rattle.std.proofs.Common.{◌≡◌, ◌+◌, ◌-◌, ◌++◌, map}
use Rattle.std.specs.List.{range_with_len}
use Rattle.solv_pool.specs.Prelude.{catalog_of, members}
use Rattle.solv_over.specs.Inner.Sums.{unmade_rules}
use Rattle.solv_over.proofs.places.rules_each.Given as goal

abbrev pub invariant-loop-before : goal.invariant-loop-before
invariant-loop-before l = l.each.items ++ map (unmade_rules (catalog_of l.task) l.left) (range_with_len (l.before + 1) (l.before-end - l.before)) ≡ map (unmade_rules (catalog_of l.task) l.left) (members (catalog_of l.task))
