use Rattle.std.proofs.Common.{length}
use Rattle.solv_deps.proofs.Points.{Goes}
use Rattle.solv_deps.proofs.reading.read_tree.Given as goal

abbrev pub invariant-loop-word : goal.invariant-loop-word
invariant-loop-word l = Goes l.draft l.outer l.count l.due l.fn.text l.rest

abbrev pub decreases-loop-word : goal.decreases-loop-word
decreases-loop-word l = length l.rest
