-- The literals of a clause, each at its first place.
use Rattle.std.specs.Prelude.{ℕ, Bool, not, ◌&&◌, nat_lt, nat_le, [], ◌∷◌, ◌++◌, if◌then◌else◌}
use Rattle.solv_pool.specs.Prelude.{Literal, Clause, is_in, is_out, contains_literal}

-- the package of a literal
abbrev pub package_of : Literal → ℕ
package_of (is_in p) = p
package_of (is_out p) = p

-- it is one that a literal may name, or the system
abbrev pub has_number : Literal → Bool
has_number l = nat_le (package_of l) 1048575

-- each literal after others that is none of them, and none of the system
abbrev pub each_first : Clause → Clause → Clause
each_first before [] = []
each_first before (l ∷ ls) = if nat_lt 0 (package_of l) && not (contains_literal before l) then l ∷ each_first (before ++ l ∷ []) ls else each_first (before ++ l ∷ []) ls
