-- Sums over lists, and over the lists that are made of their elements.
use Rattle.std.proofs.Common.{◌≡◌, ◌≤◌, ◌+◌, ◌*◌, ℕ, Bool, true, false, cond, List, [], ◌∷◌, ◌++◌, map, length, inl, inr, refl, ap, ◌∙◌, arith}
use Rattle.std.specs.Prelude.{filter, flat_map, sum_by}
use Rattle.std.proofs.lemmas.List.Sums.{sum_by-cons}
use Rattle.solv_list.proofs.Numbers.{one_time_more}
use Rattle.solv_pool.specs.Prelude.{when}
use Rattle.solv_pool.proofs.Members.{Has}

abbrev pub total : {X : Type 0} → (X → ℕ) → List X → ℕ
total w [] = 0
total w (x ∷ xs) = w x + total w xs

pub total_is : {X : Type 0} (w : X → ℕ) (xs : List X) → sum_by w xs ≡ total w xs
total_is w [] = refl
total_is w (x ∷ xs) = sum_by-cons w x xs ∙ ap (λ n. w x + n) (total_is w xs)

pub total_join : {X : Type 0} (w : X → ℕ) (xs ys : List X) → total w (xs ++ ys) ≡ total w xs + total w ys
total_join w [] ys = omega arith
total_join w (x ∷ xs) ys = let rest = total_join w xs ys in omega (arith, rest)

-- at most so much for each
pub total_made : {X Y : Type 0} (w : Y → ℕ) (make : X → Y) (most : ℕ) (xs : List X) → ((x : X) → Has xs x → w (make x) ≤ most) → total w (map make xs) ≤ length xs * most
total_made w make most [] h = omega arith
total_made w make most (x ∷ xs) h =
    let here = h x (inl refl) in
    let rest = total_made w make most xs (λ y there. h y (inr there)) in
    let more = one_time_more (length xs) most in
    omega (arith, here, rest, more)

pub total_flat : {X Y : Type 0} (w : Y → ℕ) (make : X → List Y) (most : ℕ) (xs : List X) → ((x : X) → Has xs x → total w (make x) ≤ most) → total w (flat_map make xs) ≤ length xs * most
total_flat w make most [] h = omega arith
total_flat w make most (x ∷ xs) h =
    let here = h x (inl refl) in
    let rest = total_flat w make most xs (λ y there. h y (inr there)) in
    let more = one_time_more (length xs) most in
    let both = total_join w (make x) (flat_map make xs) in
    omega (arith, here, rest, more, both)

pub total_when : {X : Type 0} (w : X → ℕ) (b : Bool) (xs : List X) → total w (when b xs) ≤ total w xs
total_when w true xs = omega arith
total_when w false xs = omega arith

pub fewer_pass : {X : Type 0} (f : X → Bool) (xs : List X) → length (filter f xs) ≤ length xs
fewer_pass f [] = omega arith
fewer_pass f (x ∷ xs) = step (f x) (fewer_pass f xs)
  where
    step : (b : Bool) → length (filter f xs) ≤ length xs → length (cond b (x ∷ filter f xs) (filter f xs)) ≤ length (x ∷ xs)
    step true h = omega (arith, h)
    step false h = omega (arith, h)
