-- What is known of a list behind its first 32 entries.
use Rattle.std.specs.Prelude.{ℕ, zero, suc, ◌≡◌, ◌<◌, ◌==◌, ◌&&◌, Bool, true, false, not, List, [], ◌∷◌, ◌++◌, length, drop, nat_lt, if◌then◌else◌}
use Rattle.std.specs.List.{list_any}

-- the id stands at this place, and at no other
abbrev pub stands_once : ℕ → ℕ → List ℕ → Bool
stands_once id place [] = false
stands_once id zero (first ∷ ids) = id == first && not (list_any (λ other. id == other) ids)
stands_once id (suc place) (first ∷ ids) = not (id == first) && stands_once id place ids

-- no id stands twice
abbrev pub are_apart : List ℕ → Bool
are_apart [] = true
are_apart (first ∷ ids) = not (list_any (λ other. first == other) ids) && are_apart ids

-- what is known after an id that has so many before it
abbrev pub noted : ℕ → ℕ → List ℕ → List ℕ
noted count id known =
    if nat_lt count 32 then known else if count == 32 then id ∷ [] else if list_any (λ other. id == other) known then known else known ++ id ∷ []

-- what is known are the ids behind the first 32, where there are such
abbrev pub IsTail : List ℕ → List ℕ → Type 0
IsTail known ids = 32 < length ids → known ≡ drop 32 ids
