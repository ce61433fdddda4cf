-- Values of a list by their places, and lists that hold no value twice.
use Rattle.std.proofs.Common.{ℕ, ◌≡◌, ◌<◌, suc, zero, cond, nat_lt, Bool, true, false, List, [], ◌∷◌, ◌++◌, length, slice_get, get_or, Option, Some, None, refl, sym, ap, ◌∙◌, inl, inr, ◌⊎◌, arith}
use Rattle.std.specs.Prelude.{position, not, ◌||◌, Result, Ok, Err, IfOk, IfSome}
use Rattle.std.specs.Result.{is_err}
use Rattle.std.specs.List.{list_any, position_or_len}
use Rattle.std.proofs.lemmas.Option.{slice_get-get_or}
use Rattle.std.proofs.lemmas.List.Sums.{prefix_len_stops}
use Rattle.solv_base.specs.Pool.{HasOneId}
use Rattle.solv_list.proofs.Booleans.{true_of_not}

-- `position` gives the first place
pub position_first : {X : Type 0} (p : X → Bool) (xs : List X) (o : Option ℕ) → o ≡ position p xs → IfSome o (λ i. i ≡ position_or_len p xs)
position_first p xs None e = tt
position_first p xs (Some i) e =
    elim (nat_lt (position_or_len p xs) (length xs)) as (λ b. Some i ≡ cond b (Some (position_or_len p xs)) None → i ≡ position_or_len p xs) [
      | true ↦ λ s. cc
      | false ↦ λ s. cc
    ] e

-- the place that `position` gives holds the value
pub place_found : {X : Type 0} (eq : X → X → Bool) (same : (x y : X) → eq x y ≡ true → x ≡ y) (k : X) (xs : List X) (i : ℕ)
    → i ≡ position_or_len (eq k) xs → i < length xs → slice_get xs i ≡ Some k
place_found eq same k xs i here within =
    let stops : not (eq k (get_or xs i k)) ≡ false = rw here (prefix_len_stops (λ x. not (eq k x)) xs k (rw (← here) within)) in
    slice_get-get_or xs i k within ∙ ap Some (sym (same k (get_or xs i k) (true_of_not (eq k (get_or xs i k)) stops)))

-- the others stay where they were
pub at_place : {X : Type 0} (xs : List X) (x y : X) (k : ℕ) → slice_get (xs ++ x ∷ []) k ≡ Some y → (slice_get xs k ≡ Some y) ⊎ ((k ≡ length xs) × (x ≡ y))
at_place [] x y zero h = inr (refl, cc)
at_place [] x y (suc k) h = cc
at_place (z ∷ xs) x y zero h = inl h
at_place (z ∷ xs) x y (suc k) h = elim (at_place xs x y k h) [ inl g ↦ inl g | inr g ↦ inr (ap suc g.0, g.1) ]

pub before_end : {X : Type 0} (xs : List X) (x : X) (k : ℕ) → k < length xs → slice_get (xs ++ x ∷ []) k ≡ slice_get xs k
before_end [] x k h = absurd (omega arith)
before_end (y ∷ xs) x zero h = refl
before_end (y ∷ xs) x (suc k) h = before_end xs x k (omega arith)

pub within : {X : Type 0} (xs : List X) (y : X) (k : ℕ) → slice_get xs k ≡ Some y → k < length xs
within [] y k h = cc
within (x ∷ xs) y zero h = omega arith
within (x ∷ xs) y (suc k) h = omega (arith, within xs y k h)

-- a value that no test finds has no place
pub absent : {X : Type 0} (eq : X → X → Bool) (itself : (x : X) → eq x x ≡ true) (k : X) (xs : List X) (m : ℕ) → list_any (eq k) xs ≡ false → slice_get xs m ≡ Some k → ⊥
absent eq itself k [] m none at = cc
absent eq itself k (x ∷ xs) zero none at =
    let same : x ≡ k = cc in
    let found : eq k k ≡ true = itself k in
    let yes_ : (eq k x || list_any (eq k) xs) ≡ true = rw (same, found) refl in
    cc
absent eq itself k (x ∷ xs) (suc m) none at = absent eq itself k xs m (right (eq k x) (list_any (eq k) xs) none) at
  where
    right : (a b : Bool) → (a || b) ≡ false → b ≡ false
    right true b h = cc
    right false b h = h

pub HasOneId_push : {X : Type 0} (xs : List X) (x : X) → HasOneId xs → ((m : ℕ) → slice_get xs m ≡ Some x → ⊥) → HasOneId (xs ++ x ∷ [])
HasOneId_push xs x once new m n y a b =
    elim (at_place xs x y m a) [
      | inl p ↦ elim (at_place xs x y n b) [ inl q ↦ once m n y p q | inr q ↦ absurd (new m (p ∙ ap Some (sym q.1))) ]
      | inr p ↦ elim (at_place xs x y n b) [ inl q ↦ absurd (new n (q ∙ ap Some (sym p.1))) | inr q ↦ p.0 ∙ sym q.0 ]
    ]

pub if_ok : {T E : Type 0} (P : Type 0) (r : Result T E) → is_err r ≡ false → IfOk r (λ _. P) → P
if_ok P (Ok x) e h = h
if_ok P (Err x) e h = cc
