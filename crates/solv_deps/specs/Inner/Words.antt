-- The words of a dependency's text: blanks separate, a parenthesis where a word begins is a word, and one within a word belongs to it.
use Rattle.std.specs.Prelude.{ℕ, suc, ◌+◌, ◌||◌, List, [], ◌∷◌, if◌then◌else◌}
use Rattle.solv_io.specs.Words.{is_blank}
use Rattle.solv_deps.specs.Words.{is_open, is_close, word_rest}

-- how many bytes follow the first byte of a word: none where this is a parenthesis
abbrev pub after_first : ℕ → List ℕ → ℕ
after_first c cs = if is_blank c || (is_open c || is_close c) then 0 else word_rest 0 cs

-- how many blanks a text begins with
abbrev pub blanks : List ℕ → ℕ
blanks [] = 0
blanks (c ∷ cs) = if is_blank c then suc (blanks cs) else 0

-- how long the word is that a text begins with
abbrev pub word_length : List ℕ → ℕ
word_length [] = 0
word_length (c ∷ cs) = if is_open c || is_close c then 1 else word_rest 0 cs + 1
