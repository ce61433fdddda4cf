-- The ids of a catalog.
use Rattle.std.specs.Prelude.{ℕ, List, length}
use Rattle.std.specs.List.{range_with_len}
use Rattle.solv_pool.specs.Prelude.{Catalog}

-- the ids of the relations
abbrev pub relations : Catalog → List ℕ
relations catalog = range_with_len 0 (length catalog.pool.nodes)

-- the ids of the names
abbrev pub names : Catalog → List ℕ
names catalog = range_with_len 0 (length catalog.pool.names)
