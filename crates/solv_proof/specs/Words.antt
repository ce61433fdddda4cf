-- The words of a line of proof text: one space stands between two of them.
use Rattle.std.specs.Prelude.{ℕ, Bool, true, false, List, [], ◌∷◌, Option, Some, None}
use Rattle.std.specs.List.{list_all}
use Rattle.solv_io.specs.Words.{between}

-- what single spaces (32) separate: one more than there are spaces, empty words too
abbrev pub words_between : List ℕ → List (List ℕ)
words_between line = between 32 line

-- the word has a byte
abbrev pub is_some_word : List ℕ → Bool
is_some_word [] = false
is_some_word (byte ∷ rest) = true

-- no word is empty, so that no space stands at an end or beside another
abbrev pub are_words : List (List ℕ) → Bool
are_words words = list_all is_some_word words

-- the words, where they are three
abbrev pub three_words : List (List ℕ) → Option (List ℕ × List ℕ × List ℕ)
three_words (a ∷ b ∷ c ∷ []) = Some (a, b, c)
three_words words = None
