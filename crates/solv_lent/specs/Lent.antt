-- What files that a caller lends hold.
use Rattle.std.specs.Prelude.{ℕ, Bool, List, map, Option, is_none}
use Rattle.std.specs.Map.{lookup}
use Rattle.std.specs.Str.{bytes_eq}
use Rattle.solv_lent.specs.declared.lent_file.LentFile.{LentFile}

-- a file's name and its bytes
abbrev pub named_bytes : LentFile → List ℕ × List ℕ
named_bytes file = (file.name.now, file.bytes.now)

-- the bytes of the first file with this name; a name that no file has cannot be read
abbrev pub lent_bytes : List LentFile → List ℕ → Option (List ℕ)
lent_bytes files name = lookup (bytes_eq name) (map named_bytes files)

-- no file has this name
abbrev pub is_missing : List LentFile → List ℕ → Bool
is_missing files name = is_none (lent_bytes files name)
