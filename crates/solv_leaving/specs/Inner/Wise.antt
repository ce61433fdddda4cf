-- Which relations a single package meets or does not, as a table, for inner contracts alone.
use Rattle.std.specs.Prelude.{ℕ, ◌≡◌, ◌<◌, Bool, true, List, length, slice_index_or}
use Rattle.solv_pool.specs.Prelude.{DepNode, tree, package_wise}

-- the entry of each relation says whether it is so; one that has no entry is so
abbrev pub AreWise : List DepNode → List Bool → Type 0
AreWise nodes wise = (d : ℕ) → d < length nodes → slice_index_or wise d true ≡ package_wise (tree nodes d)
