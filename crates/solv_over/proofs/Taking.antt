-- What may be taken for a dependency, or against it, touches it; and only of what touches it is it asked whether it is known out.
use Rattle.std.proofs.Common.{◌≡◌, ℕ, zero, suc, Bool, true, false, not, ◌&&◌, ◌||◌, List, [], ◌∷◌, ◌++◌, Option, Some, None, ◌⊎◌, inl, inr, refl, sym, ap, ◌∙◌, subst, if◌then◌else◌}
use Rattle.std.specs.Prelude.{◌==◌}
use Rattle.std.specs.List.{list_any, list_all}
use Rattle.std.proofs.lemmas.Bool.{and_parts, and_from, cases_Bool, false≢true, or_left, or_right, or_cases}
use Rattle.std.proofs.lemmas.List.Folds.{list_any-append}
use Rattle.solv_list.proofs.Booleans.{true_or_false}
use Rattle.solv_pool.specs.Prelude.{Dep, one, namespace, and, or, with, without, if_holds, unless_holds, joined, under, under_else, missing, package_wise, Catalog, packages, package_meets, holds, leaving_out}
use Rattle.solv_questions.specs.Candidates.{may_take, may_break}
use Rattle.solv_leaving.specs.Inner.Leaving.{is_plainly_met}
use Rattle.solv_leaving.specs.Inner.Leaving.{pieces, touches}

pub ap_two : {X Y Z : Type 0} (f : X → Y → Z) {a b : X} {c d : Y} → a ≡ b → c ≡ d → f a c ≡ f b d
ap_two f {a} {b} {c} {d} e g = ap (λ x. f x c) e ∙ ap (f b) g

all_same_by : {X : Type 0} (f g : X → Bool) (xs : List X) → ((x : X) → f x ≡ g x) → list_all f xs ≡ list_all g xs
all_same_by f g [] h = refl
all_same_by f g (x ∷ xs) h = ap_two (λ a b. a && b) (h x) (all_same_by f g xs h)

module _ (catalog : Catalog) where
  meets_there : (x : Option ℕ) (d : Dep ℕ) (q : ℕ) → leaving_out x (package_meets catalog d) q ≡ true → package_meets catalog d q ≡ true
  meets_there None d q h = h
  meets_there (Some y) d q h = (and_parts (not (q == y)) (package_meets catalog d q) h).1

  -- what touches a part touches the whole
  touch_first : (xs ys : List (Dep ℕ)) (q : ℕ) → list_any (λ piece. package_meets catalog piece q) xs ≡ true → list_any (λ piece. package_meets catalog piece q) (xs ++ ys) ≡ true
  touch_first xs ys q h = list_any-append (λ piece. package_meets catalog piece q) xs ys ∙ or_left (list_any (λ piece. package_meets catalog piece q) xs) (list_any (λ piece. package_meets catalog piece q) ys) h

  touch_second : (xs ys : List (Dep ℕ)) (q : ℕ) → list_any (λ piece. package_meets catalog piece q) ys ≡ true → list_any (λ piece. package_meets catalog piece q) (xs ++ ys) ≡ true
  touch_second xs ys q h = list_any-append (λ piece. package_meets catalog piece q) xs ys ∙ or_right (list_any (λ piece. package_meets catalog piece q) xs) (list_any (λ piece. package_meets catalog piece q) ys) h

  module _ (out : ℕ → Bool) (x : Option ℕ) (set : ℕ → Bool) where
    abbrev takes : Dep ℕ → ℕ → Bool
    takes d q = may_take catalog out x set d q

    abbrev breaks : Dep ℕ → ℕ → Bool
    breaks d q = may_break catalog out x set d q

    take_alone : (d : Dep ℕ) (q : ℕ) → package_wise d ≡ true → takes d q ≡ true → package_meets catalog d q ≡ true
    take_alone (one c) q w h = meets_there x (one c) q h
    take_alone (namespace n) q w h = meets_there x (namespace n) q h
    take_alone (joined with a b) q w h = meets_there x (joined with a b) q h
    take_alone (joined without a b) q w h = meets_there x (joined without a b) q h
    take_alone (joined or a b) q w h =
        let both = and_parts (package_wise a) (package_wise b) w in
        elim (or_cases (takes a q) (takes b q) h) [
          | inl k ↦ or_left (package_meets catalog a q) (package_meets catalog b q) (take_alone a q both.0 k)
          | inr k ↦ or_right (package_meets catalog a q) (package_meets catalog b q) (take_alone b q both.1 k)
        ]
    take_alone _ q w h = absurd (false≢true w)

    break_alone : (d : Dep ℕ) (q : ℕ) → package_wise d ≡ true → breaks d q ≡ false
    break_alone (one c) q w = refl
    break_alone (namespace n) q w = refl
    break_alone (joined with a b) q w = refl
    break_alone (joined without a b) q w = refl
    break_alone (joined or a b) q w =
        let both = and_parts (package_wise a) (package_wise b) w in
        by (holds catalog a (leaving_out x set)) (break_alone a q both.0) (break_alone b q both.1)
      where
        by : (c : Bool) → breaks a q ≡ false → breaks b q ≡ false → (if c then breaks a q else breaks b q) ≡ false
        by true e f = e
        by false e f = f
    break_alone _ q w = absurd (false≢true w)

    pub take_touches : (d : Dep ℕ) (q : ℕ) → takes d q ≡ true → touches catalog q d ≡ true
    take_touches (one c) q h = or_left (package_meets catalog (one c) q) false (meets_there x (one c) q h)
    take_touches (namespace n) q h = or_left (package_meets catalog (namespace n) q) false (meets_there x (namespace n) q h)
    take_touches (joined with a b) q h = or_left (package_meets catalog (joined with a b) q) false (meets_there x (joined with a b) q h)
    take_touches (joined without a b) q h = or_left (package_meets catalog (joined without a b) q) false (meets_there x (joined without a b) q h)
    take_touches (joined and a b) q h = by (holds catalog a (leaving_out x set)) (take_touches a q) (take_touches b q) h
      where
        by : (c : Bool) → (takes a q ≡ true → touches catalog q a ≡ true) → (takes b q ≡ true → touches catalog q b ≡ true) → (if c then takes b q else takes a q) ≡ true → list_any (λ piece. package_meets catalog piece q) (pieces a ++ pieces b) ≡ true
        by true f g k = touch_second (pieces a) (pieces b) q (g k)
        by false f g k = touch_first (pieces a) (pieces b) q (f k)
    take_touches (joined or a b) q h = by (package_wise (joined or a b)) refl (take_touches a q) (take_touches b q)
      where
        by : (w : Bool) → package_wise (joined or a b) ≡ w → (takes a q ≡ true → touches catalog q a ≡ true) → (takes b q ≡ true → touches catalog q b ≡ true)
            → list_any (λ piece. package_meets catalog piece q) (if w then joined or a b ∷ [] else pieces a ++ pieces b) ≡ true
        by true e f g = or_left (package_meets catalog (joined or a b) q) false (take_alone (joined or a b) q e h)
        by false e f g = elim (or_cases (takes a q) (takes b q) h) [ inl k ↦ touch_first (pieces a) (pieces b) q (f k) | inr k ↦ touch_second (pieces a) (pieces b) q (g k) ]
    take_touches (under if_holds a b) q h = touch_first (pieces a) (pieces b) q (take_touches a q h)
    take_touches (under_else if_holds a b c) q h = by (holds catalog b (leaving_out x set)) (list_all (λ o. not (takes c o) || out o) (packages catalog)) (take_touches a q) (take_touches b q) (take_touches c q) h
      where
        by : (u v : Bool) → (takes a q ≡ true → touches catalog q a ≡ true) → (takes b q ≡ true → touches catalog q b ≡ true) → (takes c q ≡ true → touches catalog q c ≡ true)
            → (if u then takes a q else (if v then takes b q else takes c q)) ≡ true → list_any (λ piece. package_meets catalog piece q) (pieces a ++ (pieces b ++ pieces c)) ≡ true
        by true v f g k m = touch_first (pieces a) (pieces b ++ pieces c) q (f m)
        by false true f g k m = touch_second (pieces a) (pieces b ++ pieces c) q (touch_first (pieces b) (pieces c) q (g m))
        by false false f g k m = touch_second (pieces a) (pieces b ++ pieces c) q (touch_second (pieces b) (pieces c) q (k m))
    take_touches _ q h = absurd (false≢true h)

    pub break_touches : (d : Dep ℕ) (q : ℕ) → breaks d q ≡ true → touches catalog q d ≡ true
    break_touches (joined and a b) q h = elim (or_cases (breaks a q) (breaks b q) h) [ inl k ↦ touch_first (pieces a) (pieces b) q (break_touches a q k) | inr k ↦ touch_second (pieces a) (pieces b) q (break_touches b q k) ]
    break_touches (joined or a b) q h = by (package_wise (joined or a b)) refl (holds catalog a (leaving_out x set)) (break_touches a q) (break_touches b q) (break_alone (joined or a b) q) h
      where
        by : (w : Bool) → package_wise (joined or a b) ≡ w → (c : Bool) → (breaks a q ≡ true → touches catalog q a ≡ true) → (breaks b q ≡ true → touches catalog q b ≡ true)
            → (package_wise (joined or a b) ≡ true → breaks (joined or a b) q ≡ false)
            → (if c then breaks a q else breaks b q) ≡ true → list_any (λ piece. package_meets catalog piece q) (if w then joined or a b ∷ [] else pieces a ++ pieces b) ≡ true
        by true e c f g alone k = absurd (false≢true (sym (alone e) ∙ h))
        by false e true f g alone k = touch_first (pieces a) (pieces b) q (f k)
        by false e false f g alone k = touch_second (pieces a) (pieces b) q (g k)
    break_touches (under unless_holds a b) q h = elim (or_cases (breaks a q) (takes b q) h) [ inl k ↦ touch_first (pieces a) (pieces b) q (break_touches a q k) | inr k ↦ touch_second (pieces a) (pieces b) q (take_touches b q k) ]
    break_touches (under_else unless_holds a b c) q h = by (holds catalog b (leaving_out x set)) (break_touches a q) (take_touches b q) (break_touches c q) h
      where
        by : (u : Bool) → (breaks a q ≡ true → touches catalog q a ≡ true) → (takes b q ≡ true → touches catalog q b ≡ true) → (breaks c q ≡ true → touches catalog q c ≡ true)
            → (if u then breaks c q else (breaks a q || takes b q)) ≡ true → list_any (λ piece. package_meets catalog piece q) (pieces a ++ (pieces b ++ pieces c)) ≡ true
        by true f g k m = touch_second (pieces a) (pieces b ++ pieces c) q (touch_second (pieces b) (pieces c) q (k m))
        by false f g k m = elim (or_cases (breaks a q) (takes b q) m) [
          | inl n ↦ touch_first (pieces a) (pieces b ++ pieces c) q (f n)
          | inr n ↦ touch_second (pieces a) (pieces b ++ pieces c) q (touch_first (pieces b) (pieces c) q (g n))
        ]
    break_touches _ q h = absurd (false≢true h)

  -- two sets of what is known out that agree on what touches the dependency
  module _ (out more : ℕ → Bool) (x : Option ℕ) (set : ℕ → Bool) where
    abbrev Agree : Dep ℕ → Type 0
    Agree d = (q : ℕ) → touches catalog q d ≡ true → more q ≡ out q

    agree_first : (xs ys : List (Dep ℕ)) → ((q : ℕ) → list_any (λ piece. package_meets catalog piece q) (xs ++ ys) ≡ true → more q ≡ out q) → (q : ℕ) → list_any (λ piece. package_meets catalog piece q) xs ≡ true → more q ≡ out q
    agree_first xs ys all q h = all q (touch_first xs ys q h)

    agree_second : (xs ys : List (Dep ℕ)) → ((q : ℕ) → list_any (λ piece. package_meets catalog piece q) (xs ++ ys) ≡ true → more q ≡ out q) → (q : ℕ) → list_any (λ piece. package_meets catalog piece q) ys ≡ true → more q ≡ out q
    agree_second xs ys all q h = all q (touch_second xs ys q h)

    take_wise : (d : Dep ℕ) (q : ℕ) → package_wise d ≡ true → may_take catalog more x set d q ≡ may_take catalog out x set d q
    take_wise (one c) q w = refl
    take_wise (namespace n) q w = refl
    take_wise (joined with a b) q w = refl
    take_wise (joined without a b) q w = refl
    take_wise (joined or a b) q w = let both = and_parts (package_wise a) (package_wise b) w in ap_two (λ s t. s || t) (take_wise a q both.0) (take_wise b q both.1)
    take_wise _ q w = absurd (false≢true w)

    pub take_same : (d : Dep ℕ) → Agree d → (q : ℕ) → may_take catalog more x set d q ≡ may_take catalog out x set d q
    take_same (one c) f q = refl
    take_same (namespace n) f q = refl
    take_same (joined with a b) f q = refl
    take_same (joined without a b) f q = refl
    take_same (joined and a b) f q = ap_two (λ s t. if holds catalog a (leaving_out x set) then s else t) (take_same b (agree_second (pieces a) (pieces b) f) q) (take_same a (agree_first (pieces a) (pieces b) f) q)
    take_same (joined or a b) f q = by (package_wise (joined or a b)) refl f (λ g. take_same a g q) (λ g. take_same b g q)
      where
        by : (w : Bool) → package_wise (joined or a b) ≡ w → ((o : ℕ) → list_any (λ piece. package_meets catalog piece o) (if w then joined or a b ∷ [] else pieces a ++ pieces b) ≡ true → more o ≡ out o)
            → (Agree a → may_take catalog more x set a q ≡ may_take catalog out x set a q) → (Agree b → may_take catalog more x set b q ≡ may_take catalog out x set b q)
            → may_take catalog more x set (joined or a b) q ≡ may_take catalog out x set (joined or a b) q
        by true e g first second = take_wise (joined or a b) q e
        by false e g first second = ap_two (λ s t. s || t) (first (agree_first (pieces a) (pieces b) g)) (second (agree_second (pieces a) (pieces b) g))
    take_same (under if_holds a b) f q = take_same a (agree_first (pieces a) (pieces b) f) q
    take_same (under unless_holds a b) f q = refl
    take_same (under_else if_holds a b c) f q =
        let of_both = agree_second (pieces a) (pieces b ++ pieces c) f in
        let of_c = agree_second (pieces b) (pieces c) of_both in
        let none_left = all_same_by (λ o. not (may_take catalog more x set c o) || more o) (λ o. not (may_take catalog out x set c o) || out o) (packages catalog) (λ o. left_same o (take_same c of_c o) (λ t. of_c o t)) in
        ap_two (λ s t. if holds catalog b (leaving_out x set) then s else t) (take_same a (agree_first (pieces a) (pieces b ++ pieces c) f) q)
        (ap (λ v. if v then may_take catalog more x set b q else may_take catalog more x set c q) none_left
        ∙ ap_two (λ s t. if list_all (λ o. not (may_take catalog out x set c o) || out o) (packages catalog) then s else t) (take_same b (agree_first (pieces b) (pieces c) of_both) q) (take_same c of_c q))
      where
        left_same : (o : ℕ) → may_take catalog more x set c o ≡ may_take catalog out x set c o → (touches catalog o c ≡ true → more o ≡ out o) → (not (may_take catalog more x set c o) || more o) ≡ (not (may_take catalog out x set c o) || out o)
        left_same o e g = ap (λ s. not s || more o) e ∙ by (may_take catalog out x set c o) refl
          where
            by : (s : Bool) → may_take catalog out x set c o ≡ s → (not s || more o) ≡ (not s || out o)
            by true k = g (take_touches out x set c o k)
            by false k = refl
    take_same (under_else unless_holds a b c) f q = refl
    take_same missing f q = refl

    pub break_same : (d : Dep ℕ) → Agree d → (q : ℕ) → may_break catalog more x set d q ≡ may_break catalog out x set d q
    break_same (joined and a b) f q = ap_two (λ s t. s || t) (break_same a (agree_first (pieces a) (pieces b) f) q) (break_same b (agree_second (pieces a) (pieces b) f) q)
    break_same (joined or a b) f q = by (package_wise (joined or a b)) refl f (λ g. break_same a g q) (λ g. break_same b g q)
      where
        by : (w : Bool) → package_wise (joined or a b) ≡ w → ((o : ℕ) → list_any (λ piece. package_meets catalog piece o) (if w then joined or a b ∷ [] else pieces a ++ pieces b) ≡ true → more o ≡ out o)
            → (Agree a → may_break catalog more x set a q ≡ may_break catalog out x set a q) → (Agree b → may_break catalog more x set b q ≡ may_break catalog out x set b q)
            → may_break catalog more x set (joined or a b) q ≡ may_break catalog out x set (joined or a b) q
        by true e g first second = break_alone more x set (joined or a b) q e ∙ sym (break_alone out x set (joined or a b) q e)
        by false e g first second = ap_two (λ s t. if holds catalog a (leaving_out x set) then s else t) (first (agree_first (pieces a) (pieces b) g)) (second (agree_second (pieces a) (pieces b) g))
    break_same (under unless_holds a b) f q = ap_two (λ s t. s || t) (break_same a (agree_first (pieces a) (pieces b) f) q) (take_same b (agree_second (pieces a) (pieces b) f) q)
    break_same (under_else unless_holds a b c) f q =
        let of_both = agree_second (pieces a) (pieces b ++ pieces c) f in
        ap_two (λ s t. if holds catalog b (leaving_out x set) then s else t) (break_same c (agree_second (pieces b) (pieces c) of_both) q)
        (ap_two (λ s t. s || t) (break_same a (agree_first (pieces a) (pieces b ++ pieces c) f) q) (take_same b (agree_first (pieces b) (pieces c) of_both) q))
    break_same (under if_holds a b) f q = refl
    break_same (under_else if_holds a b c) f q = refl
    break_same _ f q = refl

    -- of what is plainly met it is not asked what is known out
    pub take_plain : (d : Dep ℕ) → is_plainly_met d ≡ true → (q : ℕ) → may_take catalog more x set d q ≡ may_take catalog out x set d q
    take_plain (one c) p q = refl
    take_plain (namespace n) p q = refl
    take_plain (joined with a b) p q = refl
    take_plain (joined without a b) p q = refl
    take_plain (joined and a b) p q =
        let m = and_parts (is_plainly_met a) (is_plainly_met b) p in
        ap_two (λ s t. if holds catalog a (leaving_out x set) then s else t) (take_plain b m.1 q) (take_plain a m.0 q)
    take_plain (joined or a b) p q = by (package_wise (joined or a b)) refl p (λ m. take_plain a m q) (λ m. take_plain b m q)
      where
        by : (w : Bool) → package_wise (joined or a b) ≡ w → (w || (is_plainly_met a && is_plainly_met b)) ≡ true
            → (is_plainly_met a ≡ true → may_take catalog more x set a q ≡ may_take catalog out x set a q) → (is_plainly_met b ≡ true → may_take catalog more x set b q ≡ may_take catalog out x set b q)
            → may_take catalog more x set (joined or a b) q ≡ may_take catalog out x set (joined or a b) q
        by true e k first second = take_wise (joined or a b) q e
        by false e k first second = let m = and_parts (is_plainly_met a) (is_plainly_met b) k in ap_two (λ s t. s || t) (first m.0) (second m.1)
    take_plain (under if_holds a b) p q = take_plain a p q
    take_plain _ p q = absurd (false≢true p)
