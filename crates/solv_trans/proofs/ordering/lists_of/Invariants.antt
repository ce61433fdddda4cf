use Rattle.std.proofs.Common.{◌≡◌, map, take}
use Rattle.solv_trans.specs.Inner.Parting.{parts_at}
use Rattle.solv_trans.proofs.ordering.lists_of.Given as goal

abbrev pub invariant-loop-row : goal.invariant-loop-row
invariant-loop-row l = l.lists.items ≡ map (parts_at l.parts) (take l.row-index l.rows)
