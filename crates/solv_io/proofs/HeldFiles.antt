-- A walk over the files that are held.
use Rattle.std.proofs.Common.{ℕ, ◌≡◌, ◌+◌, ◌<◌, List, length, drop, get_or, cond, refl, drop-cons, add-one, Some}
use Rattle.std.specs.Str.{bytes_eq}
use Rattle.solv_io.specs.Inner.Fetches.{file_of}

-- a held file is the one that is looked for, or the others decide
pub file_of-drop : (held : List (List ℕ × List ℕ)) (name : List ℕ) (i : ℕ) (file : List ℕ × List ℕ) → i < length held → file ≡ get_or held i file
    → file_of (drop i held) name ≡ cond (bytes_eq name file.0) (Some file.1) (file_of (drop (i + 1) held) name)
file_of-drop held name i file within is = rw (add-one, drop-cons held i file within, ← is) refl
