-- The words of a line: what stands between blanks.
use Rattle.std.specs.Prelude.{ℕ, ◌==◌, ◌||◌, not, Bool, false, List, [], ◌∷◌, if◌then◌else◌}

-- a space, a tab or a carriage return
abbrev pub is_blank : ℕ → Bool
is_blank byte = (byte == 32) || ((byte == 9) || (byte == 13))

-- a word begins at once
abbrev pub begins_word : List ℕ → Bool
begins_word [] = false
begins_word (byte ∷ rest) = not (is_blank byte)

-- the words, the first one with one more byte in front
abbrev pub lengthened : ℕ → List (List ℕ) → List (List ℕ)
lengthened byte [] = []
lengthened byte (word ∷ others) = (byte ∷ word) ∷ others

-- the words of a line, each a whole run of bytes that are no blanks
abbrev pub words_of : List ℕ → List (List ℕ)
words_of [] = []
words_of (byte ∷ rest) =
    let others : List (List ℕ) = words_of rest in
    if is_blank byte then others
    else (if begins_word rest then lengthened byte others else (byte ∷ []) ∷ others)

-- the texts that a byte separates: one more than it stands there, empty ones too
abbrev pub between : ℕ → List ℕ → List (List ℕ)
between separator [] = [] ∷ []
between separator (byte ∷ rest) =
    let others : List (List ℕ) = between separator rest in
    if byte == separator then [] ∷ others else lengthened byte others
