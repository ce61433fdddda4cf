-- A set of literals, as a table of marks shows it.
use Rattle.std.specs.Prelude.{ℕ, ℤ, Bool, List}
use Rattle.solv_derive.specs.Inner.Marks.{is_marked}
use Rattle.solv_trail.specs.Inner.Numbers as numbers

-- over packages from 1 to count: a literal is in the set where its mark is the stamp; the places of the set are bits of words
pub record Marks : Type 0 where
  pub count : ℕ
  pub stamp : ℕ
  pub marks : List ℕ
  pub places : List ℕ

abbrev pub has : Marks → ℤ → Bool
has m l = is_marked m.marks m.stamp l

abbrev pub has_place : Marks → ℕ → Bool
has_place m k = numbers.has m.places k
