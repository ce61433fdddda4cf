use Rattle.std.proofs.Common.{take}
use Rattle.solv_clean.specs.Inner.Finding.{Finds, itself}
use Rattle.solv_clean.proofs.finding.mark_vertices.Given as goal

abbrev pub invariant-loop-vertex : goal.invariant-loop-vertex
invariant-loop-vertex l = Finds l.may itself (take l.vertex-index l.vertices) l.initial.marks l.initial.found.items l.marks l.found.items
