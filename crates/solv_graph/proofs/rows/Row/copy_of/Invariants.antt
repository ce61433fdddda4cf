use Rattle.std.proofs.Common.{◌≡◌, take}
use Rattle.solv_graph.proofs.rows.Row.copy_of.Given as goal

abbrev pub invariant-loop-vertex : goal.invariant-loop-vertex
invariant-loop-vertex l = l.copy ≡ take l.vertex-index l.vertices
