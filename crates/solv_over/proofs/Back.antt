-- The way back from a place, and lists of numbers that are moved.
use Rattle.std.proofs.Common.{◌≡◌, ◌⊎◌, ℕ, zero, suc, ◌+◌, ◌<◌, ◌≤◌, Bool, true, false, not, ◌&&◌, List, [], ◌∷◌, map, Option, Some, None, inl, inr, refl, sym, ◌∙◌, ap, subst, length, arith}
use Rattle.std.specs.Prelude.{slice_get, unwrap_or, nat_le, nat_lt}
use Rattle.std.proofs.lemmas.Bool.{and_parts, and_from, cases_lt, cases_eq, false≢true}
use Rattle.std.proofs.lemmas.Bool.Decides.{nat_tests}
use Rattle.solv_pool.specs.Prelude.{HardRule, is_fixed}
use Rattle.solv_rules.specs.Books.{rises}
use Rattle.solv_over.specs.Inner.Thinned.{IsRequirementOf, Thinned, end, same, more}
use Rattle.solv_over.proofs.Placing.{place, place_rule}

-- what is at a place of a moved list
pub map_back : {X Y : Type 0} (f : X → Y) (xs : List X) (i : ℕ) (y : Y) → slice_get (map f xs) i ≡ Some y → (x : X) × ((slice_get xs i ≡ Some x) × (f x ≡ y))
map_back f [] i y e = absurd (cc)
map_back f (x ∷ xs) zero y e = (x, (refl, ap (λ o. unwrap_or o (f x)) e))
map_back f (x ∷ xs) (suc i) y e = map_back f xs i y e

-- a rule of all stands at the place of a made one, or is a requirement of what is left out
pub place_back : {left : List Bool} {made all : List HardRule} (t : Thinned left made all) (j : ℕ) (x : HardRule) → slice_get all j ≡ Some x
    → ((i : ℕ) × ((place t i ≡ j) × (slice_get made i ≡ Some x))) ⊎ IsRequirementOf left x
place_back end j x h = absurd (cc)
place_back (same y t) zero x h = inl (0, (refl, h))
place_back (same y t) (suc j) x h = elim (place_back t j x h) [ inl m ↦ inl (suc m.0, (ap suc m.1.0, m.1.1)) | inr u ↦ inr u ]
place_back {left} (more y own t) zero x h = inr (subst (IsRequirementOf left) (ap (λ o. unwrap_or o y) h) own)
place_back (more y own t) (suc j) x h = elim (place_back t j x h) [ inl m ↦ inl (m.0, (ap suc m.1.0, m.1.1)) | inr u ↦ inr u ]

-- whether the rule of a number may be dropped
abbrev droppable : Option HardRule → Bool
droppable o = elim o [ None ↦ false | Some x ↦ not (is_fixed x) ]

pub drop_same : {left : List Bool} {made all : List HardRule} (t : Thinned left made all) (k : ℕ) → droppable (slice_get all (place t k)) ≡ droppable (slice_get made k)
drop_same t k = ap droppable (place_rule t k)

-- numbers that rise still rise
pub rises_at : (at : ℕ → ℕ) → ((k n : ℕ) → k < n → at k < at n) → (n m : ℕ) (xs : List ℕ) → m ≤ at n → rises n xs ≡ true → rises m (map at xs) ≡ true
rises_at at up n m [] low h = refl
rises_at at up n m (q ∷ xs) low h =
    let both = and_parts (nat_le n q) (rises (suc q) xs) h in
    let first : n ≤ q = grind (arith, nat_tests, both.0) in
    let higher : at n ≤ at q = elim (cases_eq n q) [
      | inl e ↦ let s = ap at e in omega (arith, s)
      | inr d ↦ let lt : n < q = omega (arith, first, d) in let r = up n q lt in omega (arith, r)
    ] in
    let here_ : m ≤ at q = omega (arith, low, higher) in
    let step = up q (suc q) (omega arith) in
    let next : suc (at q) ≤ at (suc q) = omega (arith, step) in
    and_from (nat_le m (at q)) (rises (suc (at q)) (map at xs)) (grind (arith, nat_tests, here_)) (rises_at at up (suc q) (suc (at q)) xs next both.1)
