-- A difference of two tests.
use Rattle.std.specs.Prelude.{Bool}
use Rattle.std.specs.Ordering.{bool_cmp}
use Rattle.std.specs.declared.cmp.Ordering.{Ordering}

-- what passes comes first
abbrev pub passing_first : Bool → Bool → Ordering
passing_first a b = bool_cmp b a
