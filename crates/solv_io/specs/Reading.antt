-- What a read of an open file does.
use Rattle.std.specs.Prelude.{ℕ, ◌≡◌, ◌≤◌, ◌<◌, List, ◌++◌, length, Option}
use Rattle.std.specs.Io.KnownBytes.{Consumes, IsAtEnd}

-- so many bytes were read and put at the end, at most so many and none only at the end of the file, whose bytes before and after are these
-- where they are known
pub record HasReadPiece (most n : ℕ) (left rest : Option (List ℕ)) (old new : List ℕ) : Type 0 where
  pub piece : List ℕ
  pub is : new ≡ old ++ piece
  pub count : length piece ≡ n
  pub within : n ≤ most
  pub taken : Consumes left rest piece
  pub end : n ≡ 0 → 0 < most → IsAtEnd rest
