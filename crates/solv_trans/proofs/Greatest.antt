-- The greatest so far is the first one that none exceeds.
use Rattle.std.proofs.Common.{◌≡◌, ℕ, Bool, true, false, not, cond, ◌||◌, List, [], ◌∷◌, Option, Some, None, refl, sym, ap, ◌∙◌, inl, inr}
use Rattle.std.specs.Prelude.{filter, find, fold}
use Rattle.std.specs.Cmp.{IsTotalOrder}
use Rattle.std.specs.List.{list_any}
use Rattle.std.specs.Option.{option_map_or}
use Rattle.std.specs.Ordering.{is_gt, ordering_reverse}
use Rattle.std.specs.declared.cmp.Ordering.{Ordering}
use Rattle.std.specs.declared.cmp.Ordering.TheVariants.{Less, Equal, Greater}
use Rattle.std.proofs.lemmas.Cmp.{tied_itself, upto, on_total}
use Rattle.solv_pool.specs.Prelude.{evr_cmp, Catalog, packages, same_name}
use Rattle.solv_pool.specs.Best.{evr_of, compare_evrs}
use Rattle.solv_trans.specs.Changes.{partner}
use Rattle.solv_trans.specs.Moving.{comes}
use Rattle.solv_trans.specs.Inner.Order.{greatest_from, greatest}
use Rattle.solv_list.proofs.Booleans.{true_is_not_false, true_or_false}
use Rattle.solv_list.proofs.Lists.{filter_twice}

find_same : (f g : ℕ → Bool) → ((x : ℕ) → f x ≡ g x) → (xs : List ℕ) → find f xs ≡ find g xs
find_same f g h [] = refl
find_same f g h (x ∷ xs) = rw (h x, find_same f g h xs) refl

absorbed : (a b c : Bool) → (a ≡ true → b ≡ true) → (a || (b || c)) ≡ (b || c)
absorbed true b c h = sym (ap (λ t. t || c) (h refl))
absorbed false b c h = refl

absorbed_behind : (a b c : Bool) → (b ≡ true → a ≡ true) → (a || (b || c)) ≡ (a || c)
absorbed_behind true b c h = refl
absorbed_behind false true c h = let no : false ≡ true = h refl in cc
absorbed_behind false false c h = refl

module _ (order : ℕ → ℕ → Ordering) (total : IsTotalOrder order) where
  abbrev over : Option ℕ → ℕ → ℕ
  over o q = option_map_or (λ b. cond (is_gt (order q b)) q b) o q

  abbrev next : Option ℕ → ℕ → Option ℕ
  next o q = Some (over o q)

  abbrev is_high : List ℕ → ℕ → Bool
  is_high list q = not (list_any (λ r. is_gt (order r q)) list)

  turned : (x t : ℕ) → is_gt (order x t) ≡ true → is_gt (order t x) ≡ false
  turned x t h = ap is_gt (total.antisymm t x) ∙ step (order x t) h
    where
      step : (o : Ordering) → is_gt o ≡ true → is_gt (ordering_reverse o) ≡ false
      step Less k = cc
      step Equal k = cc
      step Greater k = refl

  -- above what is above, and above what is not above
  above_above : (x t q : ℕ) → is_gt (order x t) ≡ true → is_gt (order t q) ≡ true → is_gt (order x q) ≡ true
  above_above x t q h k = elim (true_or_false (is_gt (order x q))) [
    | inl e ↦ e
    | inr e ↦ absurd (true_is_not_false (is_gt (order t q)) k (upto total t x q (turned x t h) e))
  ]

  not_below : (x t q : ℕ) → is_gt (order x t) ≡ false → is_gt (order x q) ≡ true → is_gt (order t q) ≡ true
  not_below x t q h k = elim (true_or_false (is_gt (order t q))) [
    | inl e ↦ e
    | inr e ↦ absurd (true_is_not_false (is_gt (order x q)) k (upto total x t q h e))
  ]

  exceeds_lower : (r x t : ℕ) → is_gt (order x t) ≡ false → is_gt (order r t) ≡ true → is_gt (order r x) ≡ true
  exceeds_lower r x t h k = elim (true_or_false (is_gt (order r x))) [
    | inl e ↦ e
    | inr e ↦ absurd (true_is_not_false (is_gt (order r t)) k (upto total r x t e h))
  ]

  some_exceeds : (x t : ℕ) → is_gt (order x t) ≡ false → (rs : List ℕ) → list_any (λ r. is_gt (order r t)) rs ≡ true → list_any (λ r. is_gt (order r x)) rs ≡ true
  some_exceeds x t h [] k = cc
  some_exceeds x t h (r ∷ rs) k = elim (true_or_false (is_gt (order r t))) [
    | inl e ↦ rw (exceeds_lower r x t h e) refl
    | inr e ↦ let rest : list_any (λ s. is_gt (order s t)) rs ≡ true = rw e at k in either (is_gt (order r x)) _ (some_exceeds x t h rs rest)
  ]
    where
      either : (a b : Bool) → b ≡ true → (a || b) ≡ true
      either true b e = refl
      either false b e = e

  pub top_is : (t : ℕ) (xs : List ℕ) → fold next (Some t) xs ≡ find (is_high (t ∷ xs)) (t ∷ xs)
  top_is t [] = let tied : is_gt (order t t) ≡ false = ap is_gt (tied_itself total t) in rw tied refl
  top_is t (x ∷ xs) = elim (true_or_false (is_gt (order x t))) [
    | inl e ↦ ap (λ b. fold next (Some (cond b x t)) xs) e ∙ top_is x xs ∙ sym (higher e)
    | inr e ↦ ap (λ b. fold next (Some (cond b x t)) xs) e ∙ top_is t xs ∙ sym (lower e)
  ]
    where
      exceeded : ℕ → Bool
      exceeded q = list_any (λ r. is_gt (order r q)) xs

      higher : is_gt (order x t) ≡ true → find (is_high (t ∷ x ∷ xs)) (t ∷ x ∷ xs) ≡ find (is_high (x ∷ xs)) (x ∷ xs)
      higher e =
          (let passed : is_high (t ∷ x ∷ xs) t ≡ false = rw (tied_is t, e) refl in rw passed refl)
          ∙ find_same (is_high (t ∷ x ∷ xs)) (is_high (x ∷ xs)) (λ q. ap not (absorbed (is_gt (order t q)) (is_gt (order x q)) (list_any (λ r. is_gt (order r q)) xs) (above_above x t q e))) (x ∷ xs)
        where
          tied_is : (y : ℕ) → is_gt (order y y) ≡ false
          tied_is y = ap is_gt (tied_itself total y)

      lower : is_gt (order x t) ≡ false → find (is_high (t ∷ x ∷ xs)) (t ∷ x ∷ xs) ≡ find (is_high (t ∷ xs)) (t ∷ xs)
      lower e =
          find_same (is_high (t ∷ x ∷ xs)) (is_high (t ∷ xs)) (λ q. ap not (absorbed_behind (is_gt (order t q)) (is_gt (order x q)) (list_any (λ r. is_gt (order r q)) xs) (not_below x t q e))) (t ∷ x ∷ xs)
          ∙ step (is_high (t ∷ xs) t) refl
        where
          passed : is_high (t ∷ xs) t ≡ false → is_high (t ∷ xs) x ≡ false
          passed f = elim (true_or_false (list_any (λ r. is_gt (order r t)) xs)) [
            | inl g ↦ rest (is_gt (order t x)) _ (some_exceeds x t e xs g)
            | inr g ↦ absurd (true_is_not_false (is_high (t ∷ xs) t) (rw (ap is_gt (tied_itself total t), g) refl) f)
          ]
            where
              rest : (a b : Bool) → b ≡ true → not (a || b) ≡ false
              rest true b h = refl
              rest false b h = ap not h

          step : (b : Bool) → is_high (t ∷ xs) t ≡ b → cond b (Some t) (find (is_high (t ∷ xs)) (x ∷ xs)) ≡ cond b (Some t) (find (is_high (t ∷ xs)) xs)
          step true f = refl
          step false f = rw (passed f) refl

  of_list : (xs : List ℕ) → fold next None xs ≡ find (is_high xs) xs
  of_list [] = refl
  of_list (x ∷ xs) = top_is x xs

  filtered : (f : ℕ → Bool) (o : Option ℕ) (xs : List ℕ) → fold (λ o q. cond (f q) (next o q) o) o xs ≡ fold next o (filter f xs)
  filtered f o [] = refl
  filtered f o (x ∷ xs) = step (f x) (filtered f (next o x) xs) (filtered f o xs)
    where
      step : (b : Bool) → fold (λ o q. cond (f q) (next o q) o) (next o x) xs ≡ fold next (next o x) (filter f xs) → fold (λ o q. cond (f q) (next o q) o) o xs ≡ fold next o (filter f xs)
          → fold (λ o q. cond (f q) (next o q) o) (cond b (next o x) o) xs ≡ fold next o (cond b (x ∷ filter f xs) (filter f xs))
      step true h k = h
      step false h k = k

  pub greatest_is : (f : ℕ → Bool) (xs : List ℕ) → fold (λ o q. cond (f q) (next o q) o) None xs ≡ find (is_high (filter f xs)) (filter f xs)
  greatest_is f xs = filtered f None xs ∙ of_list (filter f xs)

module _ (total : IsTotalOrder evr_cmp) (catalog : Catalog) where
  pub from_is : (f : ℕ → Bool) (xs : List ℕ) → greatest_from catalog f None xs ≡ greatest catalog (filter f xs)
  from_is f xs = greatest_is (compare_evrs catalog) (on_total (evr_of catalog) total) f xs

  pub partner_is : (set : ℕ → Bool) (p : ℕ) (list : List ℕ) → list ≡ filter (same_name catalog p) (packages catalog) → greatest_from catalog (comes catalog set) None list ≡ partner catalog set p
  partner_is set p list is = from_is (comes catalog set) list ∙ ap (λ t. greatest catalog (filter (comes catalog set) t)) is ∙ ap (greatest catalog) (filter_twice (same_name catalog p) (comes catalog set) (packages catalog))
