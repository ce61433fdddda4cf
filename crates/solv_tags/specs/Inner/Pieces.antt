-- What was read of an open file, piece by piece.
use Rattle.std.specs.Prelude.{ℕ, ◌≡◌, ◌+◌, ◌⊎◌, List, ◌++◌, length, take, Option, IfSome}
use Rattle.std.specs.List.{enumerate_from}
use Rattle.std.specs.Io.KnownBytes.{Consumes, IsAtEnd}
use Rattle.solv_io.specs.Lines.{lines_of, numbered_lines}
use Rattle.solv_tags.specs.Inner.Lines.{lines_read}
use Rattle.solv_tags.specs.Testtags.{Tagged}

-- these bytes were there, of so many that were read, and some more were read after them, with which they are so many; of them all something holds
pub record HasTaken (left rest : Option (List ℕ)) (before size : ℕ) (bytes : List ℕ) (Holds : List ℕ → Type 0) : Type 0 where
  pub piece : List ℕ
  pub taken : Consumes left rest piece
  pub count : size ≡ before + length piece
  pub holds : Holds (bytes ++ piece)

-- nothing more is read: as many bytes were read as may be, or the file is at its end
abbrev pub IsDone : ℕ → ℕ → Option (List ℕ) → Type 0
IsDone most size rest = (size ≡ most) ⊎ IsAtEnd rest

-- whatever comes after them, the bytes give what this text and that give after so many lines, which gave this
abbrev pub Leaves : Tagged → ℕ → Tagged → List ℕ → List ℕ → Type 0
Leaves start lines now text bytes =
    (more : List ℕ) → lines_read 0 start (numbered_lines (bytes ++ more)) ≡ lines_read lines now (enumerate_from (lines + 1) (lines_of (text ++ more)))

-- a file was read whole, or as many bytes of it as may be: so many, of which this holds
pub record HasReadFile (most size : ℕ) (told : Option (List ℕ)) (Holds : List ℕ → Type 0) : Type 0 where
  pub bytes : List ℕ
  pub count : length bytes ≡ size
  pub known : IfSome told (λ all. bytes ≡ take most all)
  pub holds : Holds bytes
