-- Bytes that are appended to others.
use Rattle.std.specs.Prelude.{ℕ, ◌≡◌, ◌≤◌, List, ◌++◌, codes, length, take}

-- these bytes begin with those
pub record Keeps (old new : List ℕ) : Type 0 where
  pub longer : length old ≤ length new
  pub front : take (length old) new ≡ old

-- a word between spaces
abbrev pub between : List ℕ → List ℕ
between word = codes " " ++ (word ++ codes " ")
