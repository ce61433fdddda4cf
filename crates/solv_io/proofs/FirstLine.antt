-- The first line of a text, by the place of the first line feed.
use Rattle.std.proofs.Common.{ℕ, ◌≡◌, ◌∙◌, ◌+◌, ◌<◌, ◌≢◌, zero, suc, true, false, ◌==◌, if◌then◌else◌, List, [], ◌∷◌, ◌++◌, length, take, drop, refl, ap, arith, add-one}
use Rattle.std.proofs.lemmas.Bool.Decides.{nat_tests}
use Rattle.std.proofs.lemmas.List.Elements.{All-nil, All-cons}
use Rattle.memchr.specs.Find.{Nowhere, Passes, is_byte}
use Rattle.solv_io.specs.Lines.{lines_of, begun_with, IsLine}

-- a byte that is no line feed begins the first line
pub lines_of-other : (byte : ℕ) (rest : List ℕ) → (is_byte 10 byte ≡ true → ⊥) → lines_of (byte ∷ rest) ≡ begun_with byte (lines_of rest)
lines_of-other byte rest other =
    elim (byte == 10) as (λ b. byte == 10 ≡ b → (if b then [] ∷ lines_of rest else begun_with byte (lines_of rest)) ≡ begun_with byte (lines_of rest)) [
      | true ↦ λ is. absurd (other is)
      | false ↦ λ is. refl
    ] refl

-- no line feed: the text is its one line
pub lines_of-whole : (text : List ℕ) → 0 < length text → Nowhere (Passes (is_byte 10) text) 0 (length text) → lines_of text ≡ text ∷ []
lines_of-whole [] some none = absurd (omega arith)
lines_of-whole (byte ∷ []) some none = lines_of-other byte [] (none 0 (omega arith) (omega arith))
lines_of-whole (byte ∷ next ∷ rest) some none =
    lines_of-other byte (next ∷ rest) (none 0 (omega arith) (omega arith))
    ∙ ap (begun_with byte) (lines_of-whole (next ∷ rest) (omega arith) (λ k low high. none (suc k) (omega arith) (omega arith)))

-- a byte that is no line feed before a first line
lines_of-later : (byte : ℕ) (rest : List ℕ) (end : ℕ) → (is_byte 10 byte ≡ true → ⊥) → lines_of rest ≡ take end rest ∷ lines_of (drop (end + 1) rest)
    → lines_of (byte ∷ rest) ≡ take (suc end) (byte ∷ rest) ∷ lines_of (drop (suc end + 1) (byte ∷ rest))
lines_of-later byte rest end other later = let cut = rw add-one at later in rw add-one (lines_of-other byte rest other ∙ ap (begun_with byte) cut)

-- the first line feed: what stands before it is the first line
pub lines_of-cut : (text : List ℕ) (end : ℕ) → end < length text → Nowhere (Passes (is_byte 10) text) 0 end → Passes (is_byte 10) text end
    → lines_of text ≡ take end text ∷ lines_of (drop (end + 1) text)
lines_of-cut [] end within none feed = absurd (omega arith)
lines_of-cut (byte ∷ rest) zero within none feed = rw feed refl
lines_of-cut (byte ∷ rest) (suc end) within none feed =
    lines_of-later byte rest end (none 0 (omega arith) (omega arith)) (lines_of-cut rest end (omega arith) (λ k low high. none (suc k) (omega arith) (omega arith)) feed)

-- what no test finds
no_feed : (byte : ℕ) → (is_byte 10 byte ≡ true → ⊥) → byte ≢ 10
no_feed byte other = grind (arith, nat_tests)

-- a text without a line feed
pub is_line : (text : List ℕ) → Nowhere (Passes (is_byte 10) text) 0 (length text) → IsLine text
is_line [] none = All-nil (λ b. b ≢ 10)
is_line (byte ∷ rest) none = All-cons (λ b. b ≢ 10) byte rest (no_feed byte (none 0 (omega arith) (omega arith))) (is_line rest (λ k low high. none (suc k) (omega arith) (omega arith)))

-- what stands before the first line feed has none
pub is_line-before : (text : List ℕ) (end : ℕ) → end < length text → Nowhere (Passes (is_byte 10) text) 0 end → IsLine (take end text)
is_line-before [] end within none = absurd (omega arith)
is_line-before (byte ∷ rest) zero within none = All-nil (λ b. b ≢ 10)
is_line-before (byte ∷ rest) (suc end) within none =
    All-cons (λ b. b ≢ 10) byte (take end rest) (no_feed byte (none 0 (omega arith) (omega arith))) (is_line-before rest end (omega arith) (λ k low high. none (suc k) (omega arith) (omega arith)))

-- a text as what stands before a line feed and what comes after it
pub cut-at : (text : List ℕ) (end : ℕ) → end < length text → Passes (is_byte 10) text end → text ≡ take end text ++ 10 ∷ drop (end + 1) text
cut-at [] end within feed = absurd (omega arith)
cut-at (byte ∷ rest) zero within feed = let is : byte ≡ 10 = grind (arith, nat_tests) in rw is refl
cut-at (byte ∷ rest) (suc end) within feed = let later = cut-at rest end (omega arith) feed in rw add-one (ap (λ l. byte ∷ l) (rw add-one at later))
