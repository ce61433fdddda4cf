-- Where a list of vertices keeps them.
use Rattle.std.specs.Prelude.{◌≡◌, ◌≤◌, ℕ, List, length, take}
use Rattle.solv_graph.specs.declared.rows.Vertices.{Vertices}
use Rattle.solv_graph.specs.declared.rows.Vertices.TheVariants.{Few, Many}

-- the vertices
abbrev pub vertices_of : Vertices → List ℕ
vertices_of (Few count places) = take count places
vertices_of (Many all) = all.value.items

-- the vertices in a list itself stand in its three places
abbrev pub AreStored : Vertices → Type 0
AreStored (Few count places) = (count ≤ 3) × (length places ≡ 3)
AreStored (Many all) = Unit {0}
