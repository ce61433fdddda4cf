-- Tables of packages by number.
use Rattle.std.specs.Prelude.{◌≡◌, ℕ, ◌<◌, ◌+◌, Bool, true, false, not, ◌&&◌, ◌||◌, ◌==◌, List, length, map, slice_index_or}
use Rattle.std.specs.List.{range_with_len}

-- which numbers a table marks
abbrev pub is_marked : List Bool → ℕ → Bool
is_marked table p = slice_index_or table p false

-- they are those that pass a test
abbrev pub Tells : List Bool → (ℕ → Bool) → Type 0
Tells table test = (p : ℕ) → is_marked table p ≡ test p

-- the table of a test, by the numbers below one
abbrev pub table_of : ℕ → (ℕ → Bool) → List Bool
table_of n test = map test (range_with_len 0 n)

-- in one table and not in another
abbrev pub but_not : List Bool → List Bool → ℕ → Bool
but_not table other p = is_marked table p && not (is_marked other p)

-- left, and asked for or not touched
abbrev pub root_by : List Bool → List Bool → List Bool → ℕ → Bool
root_by left asked touched p = is_marked left p && (is_marked asked p || not (is_marked touched p))

-- erased; or a package that is left and touched, and not kept
abbrev pub gone_by : List Bool → List Bool → List Bool → List Bool → ℕ → Bool
gone_by erased left touched kept p = is_marked erased p || (not (p == 0) && (is_marked left p && (is_marked touched p && not (is_marked kept p))))

-- the members of a set, and after them so many relations
pub record IsWithRelations (in_set : List Bool) (relations : ℕ) (may : List Bool) : Type 0 where
  pub size : length may ≡ length in_set + relations
  pub members : (q : ℕ) → q < length in_set → is_marked may q ≡ is_marked in_set q
  pub others : (id : ℕ) → id < relations → is_marked may (length in_set + id) ≡ true
