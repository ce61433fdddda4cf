-- The headings of testtags lines: a sign, three letters and `:`, which say what an entry is.
use Rattle.std.specs.Prelude.{ℕ, ◌==◌, ◌&&◌, Bool, false, List, [], ◌∷◌, reverse, take, drop, if◌then◌else◌}
use Rattle.std.specs.Char.{is_ascii_alphabetic}
use Rattle.solv_io.specs.Words.{is_blank}

-- does a line begin with this sign, three letters and `:`?
abbrev pub is_heading : ℕ → List ℕ → Bool
is_heading sign (s ∷ a ∷ b ∷ c ∷ colon ∷ rest) =
    s == sign && (is_ascii_alphabetic a && (is_ascii_alphabetic b && (is_ascii_alphabetic c && colon == 58)))
is_heading sign line = false

-- the three letters of a heading
abbrev pub letters : List ℕ → List ℕ
letters line = take 3 (drop 1 line)

-- a text without the blanks at its front
abbrev pub without_front_blanks : List ℕ → List ℕ
without_front_blanks [] = []
without_front_blanks (byte ∷ rest) = let later : List ℕ = without_front_blanks rest in if is_blank byte then later else byte ∷ rest

-- a text without the blanks round it
abbrev pub trimmed : List ℕ → List ℕ
trimmed text = reverse (without_front_blanks (reverse (without_front_blanks text)))
