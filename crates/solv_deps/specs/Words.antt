-- The words of a dependency's text: blanks separate, a parenthesis where a word begins is a word, and one within a word belongs to it.
use Rattle.std.specs.Prelude.{ℕ, zero, suc, ◌+◌, ◌-◌, ◌==◌, Bool, ◌&&◌, ◌||◌, List, [], ◌∷◌, take, if◌then◌else◌}
use Rattle.solv_io.specs.Words.{is_blank}

-- `(`
abbrev pub is_open : ℕ → Bool
is_open c = c == 40

-- `)`
abbrev pub is_close : ℕ → Bool
is_close c = c == 41

-- how many `(` of a word have no partner after this byte
abbrev pub unpaired_after : ℕ → ℕ → Bool → ℕ
unpaired_after unpaired c close = if is_open c then unpaired + 1 else (if close then unpaired - 1 else unpaired)

-- does a word with so many `(` without a partner end before this byte: at a blank, or at a `)` without a partner?
abbrev pub ends_word : ℕ → ℕ → Bool
ends_word unpaired c = is_blank c || (is_close c && unpaired == 0)

-- how many bytes a word goes on for that has so many `(` without a partner
abbrev pub word_rest : ℕ → List ℕ → ℕ
word_rest unpaired [] = 0
word_rest unpaired (c ∷ cs) = if ends_word unpaired c then 0 else suc (word_rest (unpaired_after unpaired c (is_close c)) cs)

-- the words of a text after so many bytes
abbrev pub words_after : ℕ → List ℕ → List (List ℕ)
words_after skip [] = []
words_after (suc skip) (c ∷ cs) = words_after skip cs
words_after zero (c ∷ cs) =
    let more : ℕ = if is_blank c || (is_open c || is_close c) then 0 else word_rest 0 cs in
    let later : List (List ℕ) = words_after more cs in
    if is_blank c then later else (c ∷ take more cs) ∷ later

-- the words of a text
abbrev pub words : List ℕ → List (List ℕ)
words text = words_after 0 text

-- how many `(` of a word have no partner in it
abbrev pub unpaired_in : ℕ → List ℕ → ℕ
unpaired_in unpaired [] = unpaired
unpaired_in unpaired (c ∷ cs) = unpaired_in (unpaired_after unpaired c (is_close c)) cs
