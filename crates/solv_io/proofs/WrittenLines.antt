-- Lines that are written out are read again.
use Rattle.std.proofs.Common.{ℕ, ◌≡◌, ◌≢◌, ◌∙◌, ◌<◌, true, ◌==◌, List, [], ◌∷◌, ◌++◌, All, length, refl, ap, arith, append_assoc, sym}
use Rattle.std.proofs.lemmas.Bool.Decides.{nat_tests}
use Rattle.std.proofs.lemmas.List.Elements.{All-head, All-tail}
use Rattle.solv_io.specs.Lines.{lines_of, begun_with, ended_lines, IsLine}
use Rattle.solv_io.proofs.FirstLine.{lines_of-other}

-- no test finds a line feed where there is none
not_feed : (byte : ℕ) → byte ≢ 10 → (byte == 10 ≡ true → ⊥)
not_feed byte other = grind (arith, nat_tests)

first : (byte : ℕ) (line : List ℕ) → IsLine (byte ∷ line) → (byte == 10 ≡ true → ⊥)
first byte line free = not_feed byte (All-head (λ b. b ≢ 10) byte line free)

others : (byte : ℕ) (line : List ℕ) → IsLine (byte ∷ line) → IsLine line
others byte line free = All-tail (λ b. b ≢ 10) byte line free

-- a line with a line feed after it is the first line
pub lines_of-line : (line rest : List ℕ) → IsLine line → lines_of (line ++ 10 ∷ rest) ≡ line ∷ lines_of rest
lines_of-line [] rest free = refl
lines_of-line (byte ∷ line) rest free =
    lines_of-other byte (line ++ 10 ∷ rest) (first byte line free) ∙ ap (begun_with byte) (lines_of-line line rest (others byte line free))

-- a line that is not empty is the one line of its text
pub lines_of-rest : (rest : List ℕ) → IsLine rest → 0 < length rest → lines_of rest ≡ rest ∷ []
lines_of-rest [] free some = absurd (omega arith)
lines_of-rest (byte ∷ []) free some = lines_of-other byte [] (first byte [] free)
lines_of-rest (byte ∷ next ∷ rest) free some =
    lines_of-other byte (next ∷ rest) (first byte (next ∷ rest) free)
    ∙ ap (begun_with byte) (lines_of-rest (next ∷ rest) (others byte (next ∷ rest) free) (omega arith))

pub lines_of-ended : (written : List (List ℕ)) → All IsLine written → lines_of (ended_lines written) ≡ written
lines_of-ended [] free = refl
lines_of-ended (line ∷ more) free =
    lines_of-line line (ended_lines more) (All-head IsLine line more free) ∙ ap (λ ls. line ∷ ls) (lines_of-ended more (All-tail IsLine line more free))

pub lines_of-open : (written : List (List ℕ)) (rest : List ℕ) → All IsLine written → IsLine rest → 0 < length rest → lines_of (ended_lines written ++ rest) ≡ written ++ rest ∷ []
lines_of-open [] rest free last some = lines_of-rest rest last some
lines_of-open (line ∷ more) rest free last some =
    ap lines_of (append_assoc line (10 ∷ ended_lines more) rest) ∙ lines_of-line line (ended_lines more ++ rest) (All-head IsLine line more free)
    ∙ ap (λ ls. line ∷ ls) (lines_of-open more rest (All-tail IsLine line more free) last some)

-- lines after others
pub ended_lines-append : (xs ys : List (List ℕ)) → ended_lines (xs ++ ys) ≡ ended_lines xs ++ ended_lines ys
ended_lines-append [] ys = refl
ended_lines-append (x ∷ xs) ys = ap (λ t. x ++ 10 ∷ t) (ended_lines-append xs ys) ∙ sym (append_assoc x (10 ∷ ended_lines xs) (ended_lines ys))
