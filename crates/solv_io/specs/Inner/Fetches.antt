-- What a call that fetches a file does.
use Rattle.std.specs.Prelude.{ℕ, List, [], Option}
use Rattle.std.specs.Option.{unwrap_or}
use Rattle.std.specs.Str.{bytes_eq}
use Rattle.std.specs.Map.{lookup}

-- the bytes of the first file with this name
abbrev pub file_of : List (List ℕ × List ℕ) → List ℕ → Option (List ℕ)
file_of files name = lookup (bytes_eq name) files

-- the same, where a name that is not held has an empty file
abbrev pub file_or_empty : List (List ℕ × List ℕ) → List ℕ → List ℕ
file_or_empty files name = unwrap_or (file_of files name) []
