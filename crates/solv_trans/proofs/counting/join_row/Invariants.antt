use Rattle.std.proofs.Common.{take, ◌&&◌, not}
use Rattle.std.specs.Prelude.{◌==◌, slice_index}
use Rattle.solv_trans.specs.Inner.Joining.{Adds}
use Rattle.solv_trans.proofs.counting.join_row.Given as goal

abbrev pub invariant-loop-to : goal.invariant-loop-to
invariant-loop-to l = Adds (λ q a b. l.from == a && (q == b && not (slice_index l.classes.marks a == slice_index l.classes.marks b))) (take l.to-index l.next) l.initial.counting l.counting
