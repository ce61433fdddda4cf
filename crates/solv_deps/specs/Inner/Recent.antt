-- Texts that were read into a pool before.
use Rattle.std.specs.Prelude.{ℕ, List, length, take, slice_get, Some, Ok, ◌≡◌, ◌<◌}
use Rattle.solv_base.specs.Pool.{Held, text_tree}
use Rattle.solv_deps.specs.declared.recent.Row.{Row}
use Rattle.solv_deps.specs.declared.recent.Recent.{Recent}
use Rattle.solv_deps.specs.Reading.{dependency}

-- the text of a row
abbrev pub row_text : Row → List ℕ
row_text row = take row.len row.bytes

-- a row has no text, or one that gives, where it stood, the dependency of its id
pub record IsRead (pool : Held) (row : Row) : Type 0 where
  pub read : 0 < row.len → dependency row.place (row_text row) ≡ Ok (text_tree pool row.id)
  pub below : 0 < row.len → row.id < length pool.nodes

-- every row is such a row
abbrev pub AreRead : Held → Recent → Type 0
AreRead pool recent = (n : ℕ) (row : Row) → slice_get recent.rows.items n ≡ Some row → IsRead pool row
