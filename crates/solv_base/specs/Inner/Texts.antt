-- What lies under a text of a pool.
use Rattle.std.specs.Prelude.{ℕ, ◌≤◌, List, take, ⊤}
use Rattle.solv_base.specs.declared.texts.Stored.{Stored}
use Rattle.solv_base.specs.declared.texts.Stored.TheVariants.{Short, Long}

-- the bytes of a text
abbrev pub stored_bytes : Stored → List ℕ
stored_bytes (Short len bytes) = take len bytes
stored_bytes (Long bytes) = bytes.items

-- the length of a short text is at most its room
abbrev pub IsStored : Stored → Type 0
IsStored (Short len bytes) = len ≤ 30
IsStored (Long bytes) = ⊤
