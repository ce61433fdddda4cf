-- Clauses of which each literal that says "in" is of a package that is not left out.
use Rattle.std.proofs.Common.{◌≡◌, ℕ, zero, suc, Bool, true, false, not, ◌&&◌, ◌||◌, List, [], ◌∷◌, ◌++◌, map, Option, Some, None, ◌⊎◌, inl, inr, refl, sym, ap, ◌∙◌, subst, if◌then◌else◌}
use Rattle.std.specs.Prelude.{ℤ, pos, negsuc, neg_ℤ, filter, flat_map, ◌==◌}
use Rattle.std.specs.List.{list_any, list_all}
use Rattle.std.proofs.lemmas.Bool.{and_parts, and_from, cases_Bool, false≢true, or_left, or_right, or_cases}
use Rattle.std.proofs.lemmas.List.Folds.{list_any-append}
use Rattle.solv_pool.specs.Prelude.{Dep, one, namespace, and, or, with, without, if_holds, unless_holds, joined, under, under_else, missing, package_wise, fits_place, unconditional, Catalog, members, package_meets, leaving_out, when}
use Rattle.solv_base.specs.Places.{may_stand}
use Rattle.solv_pool.specs.Clauses.{Literal, is_in, is_out, Clause, times, clauses_joined, with_package, all_meeting, clauses_package_wise, clauses_of}
use Rattle.solv_pool.specs.Needs.{serves}
use Rattle.solv_pool.specs.Parts.{parts}
use Rattle.solv_pool.proofs.Members.{Has, has_front, has_back, has_split, of_mapped, of_flat, of_filtered, of_when, any_at}
use Rattle.solv_leaving.specs.Inner.Leaving.{is_plainly_met}
use Rattle.solv_leaving.specs.Inner.Leaving.{pieces, touches}

module _ (catalog : Catalog) (inside : ℕ → Bool) where
  -- it does not say of what is left out that it is in
  abbrev pub fair : Literal → Bool
  fair (is_in q) = inside q
  fair (is_out q) = true

  abbrev pub AreFair : List Clause → Type 0
  AreFair cs = (c : Clause) → Has cs c → (l : Literal) → Has c l → fair l ≡ true

  fair_none : AreFair []
  fair_none c h l k = absurd h

  pub fair_both : (xs ys : List Clause) → AreFair xs → AreFair ys → AreFair (xs ++ ys)
  fair_both xs ys f g c h l k = elim (has_split xs ys c h) [ inl a ↦ f c a l k | inr b ↦ g c b l k ]

  pub fair_times : (xs ys : List Clause) → AreFair xs → AreFair ys → AreFair (times xs ys)
  fair_times xs ys f g c h l k =
      let x = of_flat (λ a. map (λ b. a ++ b) ys) xs c h in
      let y = of_mapped (λ b. x.0 ++ b) ys c x.1.1 in
      elim (has_split x.0 y.0 l (subst (λ (z : Clause). Has z l) (sym y.1.1) k)) [ inl a ↦ f x.0 x.1.0 l a | inr b ↦ g y.0 y.1.0 l b ]

  fair_when : (b : Bool) (xs : List Clause) → AreFair xs → AreFair (when b xs)
  fair_when b xs f c h = f c (of_when b xs c h).0

  fair_joined : (at : Bool) (xs ys : List Clause) → AreFair xs → AreFair ys → AreFair (clauses_joined at xs ys)
  fair_joined true xs ys f g = fair_both xs ys f g
  fair_joined false xs ys f g = fair_times xs ys f g

  fair_ins : (xs : List ℕ) → ((q : ℕ) → Has xs q → inside q ≡ true) → AreFair (map is_in xs ∷ [])
  fair_ins xs f c (inl e) l k =
      let m = of_mapped is_in xs l (subst (λ (z : Clause). Has z l) (sym e) k) in
      ap fair (sym m.1.1) ∙ f m.0 m.1.0
  fair_ins xs f c (inr n) l k = absurd n

  pub fair_some : (xs : List ℕ) → ((q : ℕ) → Has xs q → inside q ≡ true) → AreFair (map is_in xs ∷ [])
  fair_some = fair_ins

  pub fair_outs : (xs : List ℕ) → AreFair (map (λ q. is_out q ∷ []) xs)
  fair_outs xs c h l k =
      let m = of_mapped (λ q. is_out q ∷ []) xs c h in
      own m.0 (subst (λ (z : Clause). Has z l) (sym m.1.1) k)
    where
      own : (q : ℕ) → Has (is_out q ∷ []) l → fair l ≡ true
      own q (inl e) = ap fair (sym e)
      own q (inr n) = absurd n

  meets_there : (x : Option ℕ) (d : Dep ℕ) (q : ℕ) → leaving_out x (package_meets catalog d) q ≡ true → package_meets catalog d q ≡ true
  meets_there None d q h = h
  meets_there (Some y) d q h = (and_parts (not (q == y)) (package_meets catalog d q) h).1

  fair_alone : (x : Option ℕ) (at : Bool) (d : Dep ℕ) → ((q : ℕ) → package_meets catalog d q ≡ true → inside q ≡ true) → AreFair (clauses_package_wise catalog x at d)
  fair_alone x true d f = fair_ins (all_meeting catalog x d) (λ q h. f q (meets_there x d q (of_filtered (leaving_out x (package_meets catalog d)) (members catalog) q h).1))
  fair_alone x false d f = fair_outs (all_meeting catalog x d)

  -- nothing that is left out touches it
  abbrev pub IsUntouched : Dep ℕ → Type 0
  IsUntouched d = (q : ℕ) → touches catalog q d ≡ true → inside q ≡ true

  pub first_piece : (xs ys : List (Dep ℕ)) → ((q : ℕ) → list_any (λ piece. package_meets catalog piece q) (xs ++ ys) ≡ true → inside q ≡ true) → (q : ℕ) → list_any (λ piece. package_meets catalog piece q) xs ≡ true → inside q ≡ true
  first_piece xs ys all q s =
      let meets : Dep ℕ → Bool = λ piece. package_meets catalog piece q in
      all q (list_any-append meets xs ys ∙ or_left (list_any meets xs) (list_any meets ys) s)

  pub second_piece : (xs ys : List (Dep ℕ)) → ((q : ℕ) → list_any (λ piece. package_meets catalog piece q) (xs ++ ys) ≡ true → inside q ≡ true) → (q : ℕ) → list_any (λ piece. package_meets catalog piece q) ys ≡ true → inside q ≡ true
  second_piece xs ys all q s =
      let meets : Dep ℕ → Bool = λ piece. package_meets catalog piece q in
      all q (list_any-append meets xs ys ∙ or_right (list_any meets xs) (list_any meets ys) s)

  -- so its clauses are fair, whatever they say of it
  pub fair_untouched : (x : Option ℕ) (at : Bool) (d : Dep ℕ) → IsUntouched d → AreFair (clauses_of catalog x at d)
  fair_untouched x at (joined and a b) f =
      fair_joined at (clauses_of catalog x at a) (clauses_of catalog x at b) (fair_untouched x at a (first_piece (pieces a) (pieces b) f)) (fair_untouched x at b (second_piece (pieces a) (pieces b) f))
  fair_untouched x at (joined or a b) f = step (package_wise (joined or a b)) refl f (λ g. fair_untouched x at a g) (λ g. fair_untouched x at b g)
    where
      step : (w : Bool) → package_wise (joined or a b) ≡ w
          → ((q : ℕ) → list_any (λ piece. package_meets catalog piece q) (if w then joined or a b ∷ [] else pieces a ++ pieces b) ≡ true → inside q ≡ true)
          → (IsUntouched a → AreFair (clauses_of catalog x at a)) → (IsUntouched b → AreFair (clauses_of catalog x at b))
          → AreFair (if w then clauses_package_wise catalog x at (joined or a b) else clauses_joined (not at) (clauses_of catalog x at a) (clauses_of catalog x at b))
      step true e own first second = fair_alone x at (joined or a b) (λ q m. own q (or_left (package_meets catalog (joined or a b) q) false m))
      step false e own first second = fair_joined (not at) (clauses_of catalog x at a) (clauses_of catalog x at b) (first (first_piece (pieces a) (pieces b) own)) (second (second_piece (pieces a) (pieces b) own))
  fair_untouched x at (under k a b) f =
      fair_when (may_stand at k) (times (clauses_of catalog x at a) (clauses_of catalog x (not at) b))
      (fair_times (clauses_of catalog x at a) (clauses_of catalog x (not at) b) (fair_untouched x at a (first_piece (pieces a) (pieces b) f)) (fair_untouched x (not at) b (second_piece (pieces a) (pieces b) f)))
  fair_untouched x at (under_else k a b c) f =
      let of_a = first_piece (pieces a) (pieces b ++ pieces c) f in
      let of_both = second_piece (pieces a) (pieces b ++ pieces c) f in
      let of_b = first_piece (pieces b) (pieces c) of_both in
      let of_c = second_piece (pieces b) (pieces c) of_both in
      let one_ : List Clause = times (clauses_of catalog x at a) (clauses_of catalog x (not at) b) in
      let two_ : List Clause = times (clauses_of catalog x at c) (clauses_of catalog x at b) in
      fair_when (may_stand at k) (one_ ++ two_)
      (fair_both one_ two_
      (fair_times (clauses_of catalog x at a) (clauses_of catalog x (not at) b) (fair_untouched x at a of_a) (fair_untouched x (not at) b of_b))
      (fair_times (clauses_of catalog x at c) (clauses_of catalog x at b) (fair_untouched x at c of_c) (fair_untouched x at b of_b)))
  fair_untouched x at missing f = fair_none
  fair_untouched x at (one c) f = fair_alone x at (one c) (λ q m. f q (or_left (package_meets catalog (one c) q) false m))
  fair_untouched x at (namespace n) f = fair_alone x at (namespace n) (λ q m. f q (or_left (package_meets catalog (namespace n) q) false m))
  fair_untouched x at (joined with a b) f = fair_alone x at (joined with a b) (λ q m. f q (or_left (package_meets catalog (joined with a b) q) false m))
  fair_untouched x at (joined without a b) f = fair_alone x at (joined without a b) (λ q m. f q (or_left (package_meets catalog (joined without a b) q) false m))

  -- the clauses that say that a condition does not hold say "out" alone
  fair_condition : (x : Option ℕ) (d : Dep ℕ) → unconditional d ≡ true → AreFair (clauses_of catalog x false d)
  fair_condition x (joined and a b) u =
      let both = and_parts (unconditional a) (unconditional b) u in
      fair_times (clauses_of catalog x false a) (clauses_of catalog x false b) (fair_condition x a both.0) (fair_condition x b both.1)
  fair_condition x (joined or a b) u =
      let both = and_parts (unconditional a) (unconditional b) u in
      step (package_wise (joined or a b)) (fair_condition x a both.0) (fair_condition x b both.1)
    where
      step : (w : Bool) → AreFair (clauses_of catalog x false a) → AreFair (clauses_of catalog x false b)
          → AreFair (if w then clauses_package_wise catalog x false (joined or a b) else clauses_joined (not false) (clauses_of catalog x false a) (clauses_of catalog x false b))
      step true f g = fair_outs (all_meeting catalog x (joined or a b))
      step false f g = fair_both (clauses_of catalog x false a) (clauses_of catalog x false b) f g
  fair_condition x (one c) u = fair_outs (all_meeting catalog x (one c))
  fair_condition x (namespace n) u = fair_outs (all_meeting catalog x (namespace n))
  fair_condition x (joined with a b) u = fair_outs (all_meeting catalog x (joined with a b))
  fair_condition x (joined without a b) u = fair_outs (all_meeting catalog x (joined without a b))
  fair_condition x _ u = absurd (false≢true u)

  -- what serves it is inside
  abbrev pub IsServedInside : Dep ℕ → Type 0
  IsServedInside d = (q : ℕ) → serves catalog q d ≡ true → inside q ≡ true

  -- so are the clauses that say that what is plainly met holds
  pub fair_plain : (d : Dep ℕ) → fits_place true d ≡ true → is_plainly_met d ≡ true → IsServedInside d → AreFair (clauses_of catalog None true d)
  fair_plain (joined and a b) f p all =
      let g = and_parts (fits_place true a) (fits_place true b) f in
      let m = and_parts (is_plainly_met a) (is_plainly_met b) p in
      fair_both (clauses_of catalog None true a) (clauses_of catalog None true b) (fair_plain a g.0 m.0 (first_piece (parts a) (parts b) all)) (fair_plain b g.1 m.1 (second_piece (parts a) (parts b) all))
  fair_plain (joined or a b) f p all =
      let g = and_parts (fits_place true a) (fits_place true b) f in
      step (package_wise (joined or a b)) p all (λ m k. fair_plain a g.0 m k) (λ m k. fair_plain b g.1 m k)
    where
      step : (w : Bool) → (w || (is_plainly_met a && is_plainly_met b)) ≡ true
          → ((q : ℕ) → list_any (λ part. package_meets catalog part q) (if w then joined or a b ∷ [] else parts a ++ parts b) ≡ true → inside q ≡ true)
          → (is_plainly_met a ≡ true → IsServedInside a → AreFair (clauses_of catalog None true a)) → (is_plainly_met b ≡ true → IsServedInside b → AreFair (clauses_of catalog None true b))
          → AreFair (if w then clauses_package_wise catalog None true (joined or a b) else clauses_joined (not true) (clauses_of catalog None true a) (clauses_of catalog None true b))
      step true plain own first second = fair_alone None true (joined or a b) (λ q m. own q (or_left (package_meets catalog (joined or a b) q) false m))
      step false plain own first second =
          let m = and_parts (is_plainly_met a) (is_plainly_met b) plain in
          fair_times (clauses_of catalog None true a) (clauses_of catalog None true b) (first m.0 (first_piece (parts a) (parts b) own)) (second m.1 (second_piece (parts a) (parts b) own))
  fair_plain (under if_holds a b) f p all =
      let g = and_parts (fits_place true a) (unconditional b) f in
      fair_times (clauses_of catalog None true a) (clauses_of catalog None false b) (fair_plain a g.0 p all) (fair_condition None b g.1)
  fair_plain (one c) f p all = fair_alone None true (one c) (λ q m. all q (or_left (package_meets catalog (one c) q) false m))
  fair_plain (namespace n) f p all = fair_alone None true (namespace n) (λ q m. all q (or_left (package_meets catalog (namespace n) q) false m))
  fair_plain (joined with a b) f p all = fair_alone None true (joined with a b) (λ q m. all q (or_left (package_meets catalog (joined with a b) q) false m))
  fair_plain (joined without a b) f p all = fair_alone None true (joined without a b) (λ q m. all q (or_left (package_meets catalog (joined without a b) q) false m))
  fair_plain _ f p all = absurd (false≢true p)
