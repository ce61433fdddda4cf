-- Members of lists.
use Rattle.std.proofs.Common.{◌≡◌, ℕ, Bool, true, false, List, [], ◌∷◌, filter, inl, inr, refl, sym, ap, ◌∙◌, eqb}
use Rattle.std.specs.Prelude.{if◌then◌else◌}
use Rattle.std.specs.List.{list_all}
use Rattle.std.proofs.lemmas.Bool.{and_from, false≢true, eqb-true, or_left, or_right}
use Rattle.solv_pool.specs.Prelude.{is_among}
use Rattle.solv_list.proofs.Booleans.{or_cases}
use Rattle.solv_pool.proofs.Among.{here}

-- the members that a filter leaves
pub in_filter : (m : ℕ → Bool) (xs : List ℕ) (q : ℕ) → is_among (filter m xs) q ≡ true → (is_among xs q ≡ true) × (m q ≡ true)
in_filter m [] q h = absurd (false≢true h)
in_filter m (x ∷ xs) q h =
    (elim (m x) as (λ b. m x ≡ b → is_among (if b then x ∷ filter m xs else filter m xs) q ≡ true → (is_among (x ∷ xs) q ≡ true) × (m q ≡ true)) [
      | true ↦ λ e k. elim (or_cases (eqb x q) (is_among (filter m xs) q) k) [
        | inl s ↦ (or_left (eqb x q) (is_among xs q) s, ap m (sym (eqb-true x q s)) ∙ e)
        | inr t ↦ let r = in_filter m xs q t in (or_right (eqb x q) (is_among xs q) r.0, r.1)
      ]
      | false ↦ λ e k. let r = in_filter m xs q k in (or_right (eqb x q) (is_among xs q) r.0, r.1)
    ]) refl h

pub filter_in : (m : ℕ → Bool) (xs : List ℕ) (q : ℕ) → is_among xs q ≡ true → m q ≡ true → is_among (filter m xs) q ≡ true
filter_in m [] q i h = absurd (false≢true i)
filter_in m (x ∷ xs) q i h =
    (elim (m x) as (λ b. m x ≡ b → is_among (if b then x ∷ filter m xs else filter m xs) q ≡ true) [
      | true ↦ λ e. elim (or_cases (eqb x q) (is_among xs q) i) [
        | inl s ↦ or_left (eqb x q) (is_among (filter m xs) q) s
        | inr k ↦ or_right (eqb x q) (is_among (filter m xs) q) (filter_in m xs q k h)
      ]
      | false ↦ λ e. elim (or_cases (eqb x q) (is_among xs q) i) [
        | inl s ↦ absurd (false≢true (sym e ∙ ap m (eqb-true x q s) ∙ h))
        | inr k ↦ filter_in m xs q k h
      ]
    ]) refl

-- what holds of all members
pub all_members : (f : ℕ → Bool) (xs : List ℕ) → ((q : ℕ) → is_among xs q ≡ true → f q ≡ true) → list_all f xs ≡ true
all_members f [] h = refl
all_members f (x ∷ xs) h = and_from (f x) (list_all f xs) (h x (here x xs)) (all_members f xs (λ q i. h q (or_right (eqb x q) (is_among xs q) i)))
