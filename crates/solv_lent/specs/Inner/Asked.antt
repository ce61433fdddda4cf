-- What was asked for of files that a caller lends.
use Rattle.std.specs.Prelude.{ℕ, Bool, false, List, [], ◌∷◌}
use Rattle.solv_lent.specs.Lent.{is_missing}
use Rattle.solv_lent.specs.declared.lent_file.LentFile.{LentFile}

-- the last of some names is that of no file
abbrev pub last_is_missing : List LentFile → List (List ℕ) → Bool
last_is_missing files [] = false
last_is_missing files (name ∷ []) = is_missing files name
last_is_missing files (name ∷ next ∷ names) = last_is_missing files (next ∷ names)
