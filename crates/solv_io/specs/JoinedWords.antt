-- Words of lines, and lines of words.
use Rattle.std.specs.Prelude.{ℕ, ◌≡◌, ◌==◌, not, ◌&&◌, true, false, Bool, List, [], ◌∷◌, ◌++◌, flat_map}
use Rattle.std.specs.List.{list_all}
use Rattle.solv_io.specs.Words.{is_blank, words_of}

-- no line feed
abbrev pub is_inner : ℕ → Bool
is_inner byte = not (byte == 10)

-- a line: it has no line feed
abbrev pub is_line : List ℕ → Bool
is_line line = list_all is_inner line

-- a byte of a word: no blank and no line feed
abbrev pub is_solid : ℕ → Bool
is_solid byte = not (is_blank byte) && is_inner byte

-- a word of a line
abbrev pub is_word : List ℕ → Bool
is_word [] = false
is_word (byte ∷ rest) = list_all is_solid (byte ∷ rest)

-- words joined by one space
abbrev pub joined : List (List ℕ) → List ℕ
joined [] = []
joined (word ∷ others) = word ++ flat_map (λ other. 32 ∷ other) others

-- words that are joined are read as these words
abbrev pub WordsAreReadAgain : Type 0
WordsAreReadAgain = (words : List (List ℕ)) → list_all is_word words ≡ true → words_of (joined words) ≡ words
