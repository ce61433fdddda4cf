-- The literals of a clause as sets of packages.
use Rattle.std.specs.Prelude.{◌≡◌, Bool}
use Rattle.std.specs.BTreeSet.{contains}
use Rattle.std.specs.Ordering.{nat_cmp}
use Rattle.solv_pool.specs.Prelude.{Literal, Clause, is_in, is_out, contains_literal}
use Rattle.solv_rich.specs.declared.long_clauses.LiteralSet.{LiteralSet}

-- the literal is one of them
abbrev pub has_literal : LiteralSet → Literal → Bool
has_literal set (is_in p) = contains nat_cmp set.ins p
has_literal set (is_out p) = contains nat_cmp set.outs p

-- they are the literals of a clause
abbrev pub IsSetOf : LiteralSet → Clause → Type 0
IsSetOf set c = (m : Literal) → has_literal set m ≡ contains_literal c m
