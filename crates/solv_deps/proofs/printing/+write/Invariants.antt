use Rattle.std.proofs.Common.{◌+◌, ◌*◌}
use Rattle.std.specs.Prelude.{max}
use Rattle.solv_deps.proofs.printing.+write.Given as goal

abbrev pub decreases-write_dep : goal.decreases-write_dep
decreases-write_dep l = l.dep * 4

abbrev pub decreases-write_operand : goal.decreases-write_operand
decreases-write_operand l = l.dep * 4 + 1

abbrev pub decreases-write_else : goal.decreases-write_else
decreases-write_else l = l.dep * 4 + 2

abbrev pub decreases-write_pair : goal.decreases-write_pair
decreases-write_pair l = max l.left l.right * 4 + 3
