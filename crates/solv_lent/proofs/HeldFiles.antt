-- A walk over the files that are lent, and the last of the names that were asked for.
use Rattle.std.proofs.Common.{ℕ, ◌≡◌, ◌+◌, ◌<◌, List, [], ◌∷◌, ◌++◌, length, drop, get_or, cond, refl, drop-cons, add-one, Some}
use Rattle.std.specs.Str.{bytes_eq}
use Rattle.solv_lent.specs.Inner.Asked.{last_is_missing}
use Rattle.solv_lent.specs.Lent.{is_missing, lent_bytes}
use Rattle.solv_lent.specs.declared.lent_file.LentFile.{LentFile}

-- what comes after the end
abbrev pub no_file : LentFile
no_file = record { name = record { ref_ptr = (0, 0); now = [] }; bytes = record { ref_ptr = (0, 0); now = [] } }

-- the file at a place
abbrev pub file_at : List LentFile → ℕ → LentFile
file_at held i = get_or held i no_file

-- a lent file is the one that is looked for, or the others decide
pub lent_bytes-at : (held : List LentFile) (name : List ℕ) (i : ℕ) → i < length held
    → lent_bytes (drop i held) name ≡ cond (bytes_eq name (file_at held i).name.now) (Some (file_at held i).bytes.now) (lent_bytes (drop (i + 1) held) name)
lent_bytes-at held name i within = rw (add-one, drop-cons held i no_file within) refl

-- the last of some names and one more is that one
pub last_behind : (files : List LentFile) (names : List (List ℕ)) (name : List ℕ) → last_is_missing files (names ++ name ∷ []) ≡ is_missing files name
last_behind files [] name = refl
last_behind files (first ∷ []) name = refl
last_behind files (first ∷ second ∷ names) name = last_behind files (second ∷ names) name
