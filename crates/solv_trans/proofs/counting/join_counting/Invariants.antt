use Rattle.std.proofs.Common.{◌&&◌}
use Rattle.std.specs.Prelude.{◌==◌}
use Rattle.std.specs.List.{range_with_len}
use Rattle.solv_trans.specs.Inner.Joining.{Adds, apart}
use Rattle.solv_trans.proofs.counting.join_counting.Given as goal

abbrev pub invariant-loop-from : goal.invariant-loop-from
invariant-loop-from l = Adds (λ p a b. p == a && apart l.classes.marks l.graph a b) (range_with_len 0 l.from) l.initial.counting l.counting
