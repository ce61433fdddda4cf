-- The first items of lists.
use Rattle.std.proofs.Common.{◌≡◌, ◌++◌, ℕ, zero, suc, List, [], ◌∷◌, length, map, min, take, drop, refl, sym, ap, subst, arith}
use Rattle.std.proofs.lemmas.Grind.{common_steps}
use Rattle.std.proofs.lemmas.List.{length-map}
use Rattle.solv_solved.specs.Fillings.{filled}

pub front_mapped : {A B : Type 0} (f : A → B) (count : ℕ) (xs : List A) → map f (take count xs) ≡ take count (map f xs)
front_mapped f zero xs = refl
front_mapped f (suc count) [] = refl
front_mapped f (suc count) (x ∷ xs) = ap (λ ys. f x ∷ ys) (front_mapped f count xs)

filled_to : {A : Type 0} (items room : List A) (count : ℕ) → count ≡ min (length items) (length room) → take count items ++ drop count room ≡ filled items room
filled_to items room count is = grind (arith, common_steps)

pub filled_by : {A B : Type 0} (f : A → B) (xs : List A) (room : List B) (count : ℕ) → count ≡ min (length xs) (length room) → take count (map f xs) ++ drop count room ≡ filled (map f xs) room
filled_by f xs room count is = filled_to (map f xs) room count (subst (λ n. count ≡ min n (length room)) (sym (length-map xs f)) is)
