use Rattle.std.proofs.Common.{◌≡◌, drop, None}
use Rattle.solv_derive.specs.Inner.Marks.{is_marked}
use Rattle.solv_derive.proofs.Tables.{open_so_far}
use Rattle.solv_derive.proofs.marks.the_open.Given as goal

abbrev pub invariant-loop-lit : goal.invariant-loop-lit
invariant-loop-lit l = open_so_far (is_marked l.marks l.now) l.open (drop l.lit-index l.clause) ≡ open_so_far (is_marked l.marks l.now) None l.clause
