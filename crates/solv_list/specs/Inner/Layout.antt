-- Lists one after another in one list.
use Rattle.std.specs.Prelude.{ℕ, zero, suc, ◌≡◌, ◌≤◌, List, [], ◌∷◌, length, slice_get, slice_index, slice_range, unwrap_or}

-- the pieces of a list: the first begins at a place, and each ends at one of these and begins where the one before it ends
abbrev pub pieces : {X : Type 0} → List X → ℕ → List ℕ → List (List X)
pieces xs from [] = []
pieces xs from (end ∷ ends) = slice_range xs from end ∷ pieces xs end ends

-- where the piece of this number begins
abbrev pub start_of : ℕ → List ℕ → ℕ → ℕ
start_of from ends zero = from
start_of from ends (suc k) = slice_index ends k

-- the ends of pieces from one place to another
abbrev pub AreEnds : ℕ → List ℕ → ℕ → Type 0
AreEnds from [] upto = from ≡ upto
AreEnds from (end ∷ ends) upto = (from ≤ end) × AreEnds end ends upto

-- the pieces lie in order up to a place, and what is open after them
pub record IsInOrder {X : Type 0} (items : List X) (ends : List ℕ) (open_from : ℕ) : Type 0 where
  pub closed : AreEnds 0 ends open_from
  pub inside : open_from ≤ length items

-- the row of a number; one that is not there has nothing
abbrev pub row_at : {X : Type 0} → List (List X) → ℕ → List X
row_at rows row = unwrap_or (slice_get rows row) []
