use Rattle.std.proofs.Common.{◌≡◌, drop}
use Rattle.std.specs.List.{list_all}
use Rattle.solv_pool.specs.Prelude.{marked}
use Rattle.solv_over.specs.Inner.Places.{is_of_inside}
use Rattle.solv_over.proofs.moving.are_inside.Given as goal

abbrev pub invariant-loop-entry : goal.invariant-loop-entry
invariant-loop-entry l = list_all (is_of_inside l.count (marked l.left)) (drop l.entry-index l.entries) ≡ list_all (is_of_inside l.count (marked l.left)) l.entries
