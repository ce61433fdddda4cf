-- The lines of a text, as scripts and testtags files are read.
use Rattle.std.specs.Prelude.{ℕ, ◌==◌, List, [], ◌∷◌, ◌++◌, ◌≢◌, All, if◌then◌else◌}
use Rattle.std.specs.List.{enumerate_from}

-- lines with one more byte in front: it begins the first line, or is a line of its own where there is none
abbrev pub begun_with : ℕ → List (List ℕ) → List (List ℕ)
begun_with byte [] = (byte ∷ []) ∷ []
begun_with byte (line ∷ others) = (byte ∷ line) ∷ others

-- the lines: each ends at a line feed (10) or at the text's end, and an empty rest after the last line feed is no line
abbrev pub lines_of : List ℕ → List (List ℕ)
lines_of [] = []
lines_of (byte ∷ rest) = let others = lines_of rest in if byte == 10 then [] ∷ others else begun_with byte others

-- the lines with their numbers, the first having 1
abbrev pub numbered_lines : List ℕ → List (ℕ × List ℕ)
numbered_lines text = enumerate_from 1 (lines_of text)

-- a line has no line feed
abbrev pub IsLine : List ℕ → Type 0
IsLine line = All (λ byte. byte ≢ 10) line

-- lines written out, each ended by a line feed
abbrev pub ended_lines : List (List ℕ) → List ℕ
ended_lines [] = []
ended_lines (line ∷ others) = line ++ 10 ∷ ended_lines others
