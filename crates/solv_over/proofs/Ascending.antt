-- The packages that meet a relation alone ascend.
use Rattle.std.proofs.Common.{◌≡◌, ◌≤◌, ◌<◌, ◌+◌, ℕ, zero, suc, Bool, true, false, not, ◌&&◌, ◌||◌, cond, List, [], ◌∷◌, length, inl, inr, refl, sym, ◌∙◌, ap, subst, arith, eq-eqb, nat_cmp}
use Rattle.std.specs.Prelude.{filter, slice_get, slice_index, Ok, Err, ◌==◌}
use Rattle.std.specs.List.{range_with_len}
use Rattle.std.specs.List.Sorted.{IsBinarySearchResult}
use Rattle.std.proofs.lemmas.Bool.{cases_lt, false_from_ne_true, or_left, or_right}
use Rattle.std.proofs.lemmas.List.Sorted.{searched}
use Rattle.solv_pool.specs.Prelude.{Catalog, dependency, package_meets, is_among}
use Rattle.solv_pool.proofs.Members.{Has, among_has}
use Rattle.solv_prov.specs.Index.{Index, IsIndexOf, providers_of}
use Rattle.solv_over.specs.Inner.Sums.{IsAscending, AreAscending, are_others}
use Rattle.solv_over.proofs.Back.{map_back}

-- none is below this
abbrev AreFrom : ℕ → List ℕ → Type 0
AreFrom a xs = (i : ℕ) → i < length xs → a ≤ slice_index xs i

up_from : (f : ℕ → Bool) (a n : ℕ) → IsAscending (filter f (range_with_len a n)) × AreFrom a (filter f (range_with_len a n))
up_from f a zero = (λ i j le lt. absurd (omega (arith, lt)), λ i lt. absurd (omega (arith, lt)))
up_from f a (suc n) = by (f a) (filter f (range_with_len (a + 1) n)) (up_from f (a + 1) n)
  where
    by : (b : Bool) (ys : List ℕ) → IsAscending ys × AreFrom (a + 1) ys → IsAscending (cond b (a ∷ ys) ys) × AreFrom a (cond b (a ∷ ys) ys)
    by true ys r = (up, from)
      where
        up : IsAscending (a ∷ ys)
        up zero zero le lt = omega arith
        up zero (suc j) le lt = let low = r.1 j (omega (arith, lt)) in omega (arith, low)
        up (suc i) zero le lt = absurd (omega (arith, le))
        up (suc i) (suc j) le lt = r.0 i j (omega (arith, le)) (omega (arith, lt))

        from : AreFrom a (a ∷ ys)
        from zero lt = omega arith
        from (suc i) lt = let low = r.1 i (omega (arith, lt)) in omega (arith, low)
    by false ys r = (r.0, λ i lt. let low = r.1 i lt in omega (arith, low))

-- the lists of an index do
pub index_ascending : (index : Index) (catalog : Catalog) → IsIndexOf index catalog → AreAscending index.providers
index_ascending index catalog is place xs there =
    let m = map_back (providers_of catalog) (range_with_len 0 (length catalog.pool.nodes)) place xs (ap (λ (i : Index). slice_get i.providers place) (sym is.exact) ∙ there) in
    subst IsAscending m.1.1 (up_from (package_meets catalog (dependency catalog m.0)) 0 (suc (length catalog.universe.packages))).0

-- where a search finds a number it is among them
pub found_among : (xs : List ℕ) (x place : ℕ) → IsAscending xs → IsBinarySearchResult (λ y. nat_cmp y x) xs (Ok place) → is_among xs x ≡ true
found_among xs x place up found = let r : (place < length xs) × (slice_index xs place ≡ x) = searched xs x (Ok place) found up in at xs place r.0 r.1
  where
    at : (ys : List ℕ) (i : ℕ) → i < length ys → slice_index ys i ≡ x → is_among ys x ≡ true
    at [] i lt e = absurd (omega (arith, lt))
    at (y ∷ ys) zero lt e = or_left (y == x) (is_among ys x) (eq-eqb y x e)
    at (y ∷ ys) (suc i) lt e = or_right (y == x) (is_among ys x) (at ys i (omega (arith, lt)) e)

-- and where not, not
pub missed_among : (xs : List ℕ) (x place : ℕ) → IsAscending xs → IsBinarySearchResult (λ y. nat_cmp y x) xs (Err place) → is_among xs x ≡ false
missed_among xs x place up missed =
    let r : (place ≤ length xs) × ((k : ℕ) → k < place → slice_index xs k < x) × ((k : ℕ) → place ≤ k → k < length xs → x < slice_index xs k) = searched xs x (Err place) missed up in
    false_from_ne_true (is_among xs x) (λ h.
    let i = place_in xs (among_has xs x h) in
    elim (cases_lt i.0 place) [
      | inl less ↦ let low = r.1 i.0 less in let e = i.1.1 in omega (arith, low, e)
      | inr most ↦ let high = r.2 i.0 most i.1.0 in let e = i.1.1 in omega (arith, high, e)
    ])
  where
    place_in : (ys : List ℕ) → Has ys x → (i : ℕ) × ((i < length ys) × (slice_index ys i ≡ x))
    place_in [] h = absurd h
    place_in (y ∷ ys) (inl e) = (0, (omega arith, e))
    place_in (y ∷ ys) (inr h) = let m = place_in ys h in let lt = m.1.0 in (suc m.0, (omega (arith, lt), m.1.1))

-- neither is among them where each is not
pub others_by : (p : ℕ) (qs : List ℕ) → are_others p qs ≡ (not (is_among qs 0) && not (is_among qs p))
others_by p [] = refl
others_by p (q ∷ qs) = by (q == 0) (q == p) (is_among qs 0) (is_among qs p) (others_by p qs)
  where
    by : (z o a b : Bool) → are_others p qs ≡ (not a && not b) → (not (z || o) && are_others p qs) ≡ (not (z || a) && not (o || b))
    by true o a b h = refl
    by false true true b h = refl
    by false true false b h = refl
    by false false a b h = h
