-- The tables of a trail.
use Rattle.std.proofs.Common.{◌≡◌, ℕ, zero, suc, ◌+◌, ◌<◌, ◌≤◌, Bool, true, false, ◌&&◌, ◌||◌, List, [], ◌∷◌, ◌++◌, length, take, get_or, set, eqb, ◌⊎◌, inl, inr, refl, sym, ap, ◌∙◌, arith, length-set, length-take, min, get_or-set_same, get_or-set_other, eq-eqb}
use Rattle.std.specs.Prelude.{ℤ, pos, negsuc, neg_ℤ, nat_abs, nat_lt}
use Rattle.std.specs.List.{sum_by, list_all}
use Rattle.std.specs.Ordering.{int_eq}
use Rattle.std.proofs.lemmas.Bool.{and_parts, and_from, cases_Bool, cases_lt, cases_eq, false≢true, eqb-true, eqb-false, or_left, lt-ltb, ltb-true}
use Rattle.std.proofs.lemmas.List.{get_or_append_left, length_push, get_or_push, get_or-take, length-take-le, take_at, take-take, take_all, take_more}
use Rattle.std.proofs.lemmas.List.Sums.{sum_by-set, sum_by-cons}
use Rattle.std.proofs.lemmas.List.Folds.{list_all-append}
use Rattle.solv_pool.specs.Prelude.{is_fact, is_refuted, names_package}
use Rattle.solv_trail.specs.Inner.Held.{IsHeld, code, filled}
use Rattle.solv_derive.proofs.Facts.{same_self, all_member}
use Rattle.solv_derive.proofs.Tables.{names_parts, names_neg, known_push}
use Rattle.solv_trail.proofs.Walk.{known_at, known_place}
use Rattle.solv_list.proofs.Numbers.{same_integer}

filled_le : (v : ℕ) → filled v ≤ 1
filled_le v = go (eqb v 0) refl
  where
    go : (b : Bool) → eqb v 0 ≡ b → filled v ≤ 1
    go true e = rw e (omega arith)
    go false e = rw e (omega arith)

sum_bound : (a b s n : ℕ) → s ≡ a + b → a ≤ 1 → b ≤ n → s ≤ suc n
sum_bound a b s n e h k = omega arith

sum_first : (a b s n : ℕ) → s ≡ a + b → a ≡ 0 → b ≤ n → s + 1 ≤ suc n
sum_first a b s n e h k = omega arith

sum_le : (xs : List ℕ) → sum_by filled xs ≤ length xs
sum_le [] = omega arith
sum_le (x ∷ xs) =
    let e : sum_by filled (x ∷ xs) ≡ filled x + sum_by filled xs = sum_by-cons filled x xs in
    let h : filled x ≤ 1 = filled_le x in
    let k : sum_by filled xs ≤ length xs = sum_le xs in
    sum_bound (filled x) (sum_by filled xs) (sum_by filled (x ∷ xs)) (length xs) e h k

sum_lt : (xs : List ℕ) → 0 < length xs → get_or xs 0 0 ≡ 0 → sum_by filled xs + 1 ≤ length xs
sum_lt [] h e = absurd (omega arith)
sum_lt (x ∷ xs) h e =
    let f : filled x ≡ 0 = ap filled e in
    let g : sum_by filled (x ∷ xs) ≡ filled x + sum_by filled xs = sum_by-cons filled x xs in
    let k : sum_by filled xs ≤ length xs = sum_le xs in
    sum_first (filled x) (sum_by filled xs) (sum_by filled (x ∷ xs)) (length xs) g f k

module _ (count : ℕ) (values places : List ℕ) (lits : List ℤ) (reasons marks : List ℕ) (held : IsHeld count values places lits reasons marks) where
  pub held_few : length lits ≤ count
  held_few = let s : sum_by filled values + 1 ≤ length values = sum_lt values (omega (arith, held.values_size)) held.system in omega (arith, held.values_size, held.many)

  module _ (l : ℤ) (over : names_package count l ≡ true) (unknown : is_fact lits l ≡ false) (loose : is_refuted lits l ≡ false) where
    value_zero : get_or values (nat_abs l) 0 ≡ 0
    value_zero = go l over (held.says l over ∙ unknown) (held.says (neg_ℤ l) (names_neg count l over) ∙ loose)
      where
        go : (m : ℤ) → names_package count m ≡ true → eqb (get_or values (nat_abs m) 0) (code m) ≡ false → eqb (get_or values (nat_abs (neg_ℤ m)) 0) (code (neg_ℤ m)) ≡ false → get_or values (nat_abs m) 0 ≡ 0
        go (pos zero) o a b = absurd (omega (arith, (names_parts count (pos zero) o).0))
        go (pos (suc n)) o a b = let x = eqb-false (get_or values (suc n) 0) 1 a in let y = eqb-false (get_or values (suc n) 0) 2 b in let z : get_or values (suc n) 0 ≤ 2 = held.bytes (suc n) in pick (get_or values (suc n) 0) z x y
          where
            pick : (v : ℕ) → v ≤ 2 → (v ≡ 1 → ⊥) → (v ≡ 2 → ⊥) → v ≡ 0
            pick v h x y = omega arith
        go (negsuc n) o a b = let x = eqb-false (get_or values (suc n) 0) 2 a in let y = eqb-false (get_or values (suc n) 0) 1 b in let z : get_or values (suc n) 0 ≤ 2 = held.bytes (suc n) in pick (get_or values (suc n) 0) z x y
          where
            pick : (v : ℕ) → v ≤ 2 → (v ≡ 2 → ⊥) → (v ≡ 1 → ⊥) → v ≡ 0
            pick v h x y = omega arith

    pub package_within : nat_abs l < count + 1
    package_within = omega (arith, (names_parts count l over).1)

    -- there is room for one more
    pub held_room : length lits < count
    held_room =
        let inside : nat_abs l < length values = rw held.values_size package_within in
        let e : sum_by filled (set values (nat_abs l) 1) + filled (get_or values (nat_abs l) 0) ≡ sum_by filled values + filled 1 = sum_by-set filled values (nat_abs l) 1 0 inside in
        let f : filled (get_or values (nat_abs l) 0) ≡ 0 = ap filled value_zero in
        let long : length (set values (nat_abs l) 1) ≡ length values = length-set values (nat_abs l) 1 in
        let z : get_or (set values (nat_abs l) 1) 0 0 ≡ 0 = get_or-set_other values (nat_abs l) 0 1 0 (λ q. differs q) ∙ held.system in
        let s : sum_by filled (set values (nat_abs l) 1) + 1 ≤ length (set values (nat_abs l) 1) = sum_lt (set values (nat_abs l) 1) (omega (arith, held.values_size)) z in
        omega (arith, held.values_size, held.many)
      where
        differs : 0 ≡ nat_abs l → ⊥
        differs q = let n = (names_parts count l over).0 in omega arith

    same_package : (m : ℤ) → nat_abs m ≡ nat_abs l → (m ≡ l) ⊎ (m ≡ neg_ℤ l)
    same_package m e = go m l e
      where
        go : (x y : ℤ) → nat_abs x ≡ nat_abs y → (x ≡ y) ⊎ (x ≡ neg_ℤ y)
        go (pos a) (pos b) h = inl (ap pos h)
        go (pos a) (negsuc b) h = inr (ap pos h)
        go (negsuc a) (pos zero) h = absurd (omega arith)
        go (negsuc a) (pos (suc b)) h = let f : a ≡ b = omega arith in inr (ap negsuc f)
        go (negsuc a) (negsuc b) h = let f : a ≡ b = omega arith in inl (ap negsuc f)

    code_bounds : (1 ≤ code l) × (code l ≤ 2)
    code_bounds = go l
      where
        go : (m : ℤ) → (1 ≤ code m) × (code m ≤ 2)
        go (pos a) = (omega arith, omega arith)
        go (negsuc a) = (omega arith, omega arith)

    code_neg : eqb (code l) (code (neg_ℤ l)) ≡ false
    code_neg = go l (names_parts count l over).0
      where
        go : (m : ℤ) → 0 < nat_abs m → eqb (code m) (code (neg_ℤ m)) ≡ false
        go (pos zero) h = absurd (omega arith)
        go (pos (suc a)) h = refl
        go (negsuc a) h = refl

    abs_neg : nat_abs (neg_ℤ l) ≡ nat_abs l
    abs_neg = go l
      where
        go : (m : ℤ) → nat_abs (neg_ℤ m) ≡ nat_abs m
        go (pos zero) = refl
        go (pos (suc a)) = refl
        go (negsuc a) = refl

    neg_not : neg_ℤ l ≡ l → ⊥
    neg_not e = go l (names_parts count l over).0 e
      where
        go : (m : ℤ) → 0 < nat_abs m → neg_ℤ m ≡ m → ⊥
        go (pos zero) h f = omega arith
        go (pos (suc a)) h f = cc
        go (negsuc a) h f = cc

    pushed_other : (m : ℤ) → (m ≡ l → ⊥) → is_fact (lits ++ l ∷ []) m ≡ is_fact lits m
    pushed_other m h = sym (known_push lits l m) ∙ ap (λ b. b || is_fact lits m) (int_ne (cases_Bool (int_eq m l)))
      where
        int_ne : ((int_eq m l ≡ true) ⊎ (int_eq m l ≡ false)) → int_eq m l ≡ false
        int_ne (inl e) = absurd (h (same_integer m l e))
        int_ne (inr f) = f

    -- with one more literal
    pub held_push : (reason : ℕ) → IsHeld count (set values (nat_abs l) (code l)) (set places (nat_abs l) (length lits)) (lits ++ l ∷ []) (reasons ++ reason ∷ []) marks
    held_push reason =
        let inside : nat_abs l < length values = rw held.values_size package_within in
        let inside_places : nat_abs l < length places = rw held.places_size package_within in
        let long : length (lits ++ l ∷ []) ≡ length lits + 1 = length_push lits l in
        record {
          small = held.small;
          values_size = length-set values (nat_abs l) (code l) ∙ held.values_size;
          places_size = length-set places (nat_abs l) (length lits) ∙ held.places_size;
          bytes = λ k. elim (cases_eq k (nat_abs l)) [
            | inl e ↦
                let q : get_or (set values (nat_abs l) (code l)) k 0 ≡ code l = ap (λ v. get_or (set values (nat_abs l) (code l)) v 0) e ∙ get_or-set_same values (nat_abs l) (code l) 0 inside in
                rw q code_bounds.1
            | inr n ↦ rw (get_or-set_other values (nat_abs l) k (code l) 0 n) (held.bytes k)
          ];
          system = get_or-set_other values (nat_abs l) 0 (code l) 0 (λ q. not_system q) ∙ held.system;
          says = λ m o. elim (cases_eq (nat_abs m) (nat_abs l)) [
            | inl e ↦
                let q : get_or (set values (nat_abs l) (code l)) (nat_abs m) 0 ≡ code l = ap (λ v. get_or (set values (nat_abs l) (code l)) v 0) e ∙ get_or-set_same values (nat_abs l) (code l) 0 inside in
                ap (λ v. eqb v (code m)) q ∙ elim (same_package m e) [
                  | inl s ↦ eq-eqb (code l) (code m) (ap code (sym s)) ∙ sym (ap (is_fact (lits ++ l ∷ [])) s ∙ sym (known_push lits l l) ∙ or_left (int_eq l l) (is_fact lits l) (same_self l))
                  | inr s ↦ ap (λ v. eqb (code l) (code v)) s ∙ code_neg ∙ sym loose ∙ sym (pushed_other (neg_ℤ l) neg_not) ∙ ap (is_fact (lits ++ l ∷ [])) (sym s)
                ]
            | inr n ↦
                ap (λ v. eqb v (code m)) (get_or-set_other values (nat_abs l) (nat_abs m) (code l) 0 n)
                ∙ held.says m o ∙ sym (pushed_other m (λ s. n (ap nat_abs s)))
          ];
          many =
              let e : sum_by filled (set values (nat_abs l) (code l)) + filled (get_or values (nat_abs l) 0) ≡ sum_by filled values + filled (code l) = sum_by-set filled values (nat_abs l) (code l) 0 inside in
              let f : filled (get_or values (nat_abs l) 0) ≡ 0 = ap filled value_zero in
              let g : filled (code l) ≡ 1 = filled_code l in
              omega (arith, held.many);
          over = list_all-append (names_package count) lits (l ∷ []) ∙ and_from (list_all (names_package count) lits) (names_package count l && true) held.over (and_from (names_package count l) true over refl);
          there = λ j h. elim (cases_lt j (length lits)) [
            | inl small ↦
                let g : get_or (lits ++ l ∷ []) j (pos 0) ≡ get_or lits j (pos 0) = get_or_append_left lits (l ∷ []) (pos 0) j small in
                rw g (get_or-set_other places (nat_abs l) (nat_abs (get_or lits j (pos 0))) (length lits) 0 (apart j small) ∙ held.there j small)
            | inr large ↦
                let e : length lits ≡ j = omega arith in
                rw (get_or_push lits l (pos 0) j e) (get_or-set_same places (nat_abs l) (length lits) 0 inside_places ∙ e)
          ];
          reasons_size = length_push reasons reason ∙ ap (λ v. v + 1) held.reasons_size ∙ sym long;
          marks_within = λ k h. let w : get_or marks k 0 < length lits = held.marks_within k h in omega arith;
          marks_rise = held.marks_rise;
          marks_few = let w = held.marks_few in omega arith;
        }
      where
        not_system : 0 ≡ nat_abs l → ⊥
        not_system q = let n = (names_parts count l over).0 in omega arith

        filled_code : (m : ℤ) → filled (code m) ≡ 1
        filled_code (pos a) = refl
        filled_code (negsuc a) = refl

        apart : (j : ℕ) → j < length lits → nat_abs (get_or lits j (pos 0)) ≡ nat_abs l → ⊥
        apart j small e =
            let k : is_fact lits (get_or lits j (pos 0)) ≡ true = known_at lits j small in
            elim (same_package (get_or lits j (pos 0)) e) [
              | inl s ↦ false≢true (sym unknown ∙ ap (is_fact lits) (sym s) ∙ k)
              | inr s ↦ false≢true (sym loose ∙ ap (is_fact lits) (sym s) ∙ k)
            ]

-- a package beyond the count is neither in nor out
pub beyond : (count : ℕ) (lits : List ℤ) (l : ℤ) → list_all (names_package count) lits ≡ true → count < nat_abs l → is_fact lits l ≡ false
beyond count lits l over far = elim (cases_Bool (is_fact lits l)) [
  | inl k ↦ let p = names_parts count l (all_member (names_package count) lits over l k) in absurd (omega (arith, p.1))
  | inr f ↦ f
]

pub abs_of_neg : (n : ℕ) → nat_abs (neg_ℤ (pos n)) ≡ n
abs_of_neg zero = refl
abs_of_neg (suc n) = refl

-- no package is in and out
pub held_apart : (count : ℕ) (values places : List ℕ) (lits : List ℤ) (reasons marks : List ℕ) → IsHeld count values places lits reasons marks → (l : ℤ) → is_fact lits l ≡ true → is_fact lits (neg_ℤ l) ≡ true → ⊥
held_apart count values places lits reasons marks held l k f =
    let o : names_package count l ≡ true = all_member (names_package count) lits held.over l k in
    let a : get_or values (nat_abs l) 0 ≡ code l = eqb-true (get_or values (nat_abs l) 0) (code l) (held.says l o ∙ k) in
    let b : get_or values (nat_abs (neg_ℤ l)) 0 ≡ code (neg_ℤ l) = eqb-true (get_or values (nat_abs (neg_ℤ l)) 0) (code (neg_ℤ l)) (held.says (neg_ℤ l) (names_neg count l o) ∙ f) in
    codes l (names_parts count l o).0 a b
  where
    codes : (m : ℤ) → 0 < nat_abs m → get_or values (nat_abs m) 0 ≡ code m → get_or values (nat_abs (neg_ℤ m)) 0 ≡ code (neg_ℤ m) → ⊥
    codes (pos zero) h a b = omega arith
    codes (pos (suc n)) h a b = omega arith
    codes (negsuc n) h a b = omega arith

-- a mark at the place of the newest literal
pub held_choose : (count : ℕ) (values places : List ℕ) (lits : List ℤ) (reasons marks : List ℕ) → IsHeld count values places lits reasons marks → (l : ℤ) → names_package count l ≡ true → is_fact lits l ≡ false → is_refuted lits l ≡ false → (reason : ℕ)
    → IsHeld count (set values (nat_abs l) (code l)) (set places (nat_abs l) (length lits)) (lits ++ l ∷ []) (reasons ++ reason ∷ []) (marks ++ length lits ∷ [])
held_choose count values places lits reasons marks held l over unknown loose reason =
    let h = held_push count values places lits reasons marks held l over unknown loose reason in
    let long : length (lits ++ l ∷ []) ≡ length lits + 1 = length_push lits l in
    let many : length (marks ++ length lits ∷ []) ≡ length marks + 1 = length_push marks (length lits) in
    let few : length marks ≤ length lits = held.marks_few in
    record {
      small = h.small;
      values_size = h.values_size;
      places_size = h.places_size;
      bytes = h.bytes;
      system = h.system;
      says = h.says;
      many = h.many;
      over = h.over;
      there = h.there;
      reasons_size = h.reasons_size;
      marks_within = λ k b. elim (cases_lt k (length marks)) [
        | inl s ↦ let w : get_or marks k 0 < length lits = held.marks_within k s in rw (get_or_append_left marks (length lits ∷ []) 0 k s) (omega arith)
        | inr g ↦ let e : length marks ≡ k = omega arith in rw (get_or_push marks (length lits) 0 k e) (omega arith)
      ];
      marks_rise = λ i k b g. elim (cases_lt k (length marks)) [
        | inl s ↦ let w : get_or marks i 0 < get_or marks k 0 = held.marks_rise i k b s in rw (get_or_append_left marks (length lits ∷ []) 0 i (omega arith), get_or_append_left marks (length lits ∷ []) 0 k s) w
        | inr t ↦
            let e : length marks ≡ k = omega arith in
            let w : get_or marks i 0 < length lits = held.marks_within i (omega arith) in
            rw (get_or_append_left marks (length lits ∷ []) 0 i (omega arith), get_or_push marks (length lits) 0 k e) w
      ];
      marks_few = omega arith;
    }

pub held_marks_cut : (count : ℕ) (values places : List ℕ) (lits : List ℤ) (reasons marks : List ℕ) (level : ℕ) → level ≤ length marks → IsHeld count values places lits reasons marks → IsHeld count values places lits reasons (take level marks)
held_marks_cut count values places lits reasons marks level h held =
    let long : length (take level marks) ≡ level = length-take-le level marks h in
    record {
      small = held.small;
      values_size = held.values_size;
      places_size = held.places_size;
      bytes = held.bytes;
      system = held.system;
      says = held.says;
      many = held.many;
      over = held.over;
      there = held.there;
      reasons_size = held.reasons_size;
      marks_within = λ k b. rw (get_or-take level marks k 0 (omega arith)) (held.marks_within k (omega arith));
      marks_rise = λ i k b g. rw (get_or-take level marks i 0 (omega arith), get_or-take level marks k 0 (omega arith)) (held.marks_rise i k b (omega arith));
      marks_few = let w : length marks ≤ length lits = held.marks_few in omega arith;
    }

-- without its newest literal
module _ (count : ℕ) (values places : List ℕ) (lits : List ℤ) (l : ℤ) (reasons : List ℕ) (r : ℕ) (marks : List ℕ) (held : IsHeld count values places (lits ++ l ∷ []) (reasons ++ r ∷ []) marks) where
  pub popped_over : (list_all (names_package count) lits ≡ true) × (names_package count l ≡ true)
  popped_over =
      let both = and_parts (list_all (names_package count) lits) (names_package count l && true) (sym (list_all-append (names_package count) lits (l ∷ [])) ∙ held.over) in
      (both.0, (and_parts (names_package count l) true both.1).0)

  popped_long : length (lits ++ l ∷ []) ≡ length lits + 1
  popped_long = length_push lits l

  popped_place : get_or places (nat_abs l) 0 ≡ length lits
  popped_place = ap (λ v. get_or places (nat_abs v) 0) (sym (get_or_push lits l (pos 0) (length lits) refl)) ∙ held.there (length lits) (let e = popped_long in omega arith)

  -- no other literal is of its package
  pub popped_alone : (m : ℤ) → is_fact lits m ≡ true → nat_abs m ≡ nat_abs l → ⊥
  popped_alone m k e =
      let s = known_place lits m k in
      let j : ℕ = s.0 in
      let g : get_or (lits ++ l ∷ []) j (pos 0) ≡ m = get_or_append_left lits (l ∷ []) (pos 0) j s.1 ∙ s.2 in
      let t : get_or places (nat_abs m) 0 ≡ j = ap (λ v. get_or places (nat_abs v) 0) (sym g) ∙ held.there j (let q = popped_long in omega (arith, s.1)) in
      let u : j ≡ length lits = sym t ∙ ap (λ v. get_or places v 0) e ∙ popped_place in
      omega (arith, s.1)

  popped_other : (m : ℤ) → (m ≡ l → ⊥) → is_fact (lits ++ l ∷ []) m ≡ is_fact lits m
  popped_other m h = sym (known_push lits l m) ∙ ap (λ b. b || is_fact lits m) (int_ne (cases_Bool (int_eq m l)))
    where
      int_ne : ((int_eq m l ≡ true) ⊎ (int_eq m l ≡ false)) → int_eq m l ≡ false
      int_ne (inl e) = absurd (h (same_integer m l e))
      int_ne (inr f) = f

  pub held_pop : ((k : ℕ) → k < length marks → get_or marks k 0 < length lits) → length marks ≤ length lits → IsHeld count (set values (nat_abs l) 0) places lits reasons marks
  held_pop below few =
      let o : names_package count l ≡ true = popped_over.1 in
      let inside : nat_abs l < length values = rw held.values_size (let b = (names_parts count l o).1 in omega (arith, b)) in
      let code_here : get_or values (nat_abs l) 0 ≡ code l = eqb-true (get_or values (nat_abs l) 0) (code l) (held.says l o ∙ sym (known_push lits l l) ∙ or_left (int_eq l l) (is_fact lits l) (same_self l)) in
      record {
        small = held.small;
        values_size = length-set values (nat_abs l) 0 ∙ held.values_size;
        places_size = held.places_size;
        bytes = λ k. elim (cases_eq k (nat_abs l)) [
          | inl e ↦ let q : get_or (set values (nat_abs l) 0) k 0 ≡ 0 = ap (λ v. get_or (set values (nat_abs l) 0) v 0) e ∙ get_or-set_same values (nat_abs l) 0 0 inside in omega arith
          | inr n ↦ rw (get_or-set_other values (nat_abs l) k 0 0 n) (held.bytes k)
        ];
        system = get_or-set_other values (nat_abs l) 0 0 0 (λ q. let n = (names_parts count l o).0 in omega (arith, n)) ∙ held.system;
        says = λ m p. elim (cases_eq (nat_abs m) (nat_abs l)) [
          | inl e ↦
              let q : get_or (set values (nat_abs l) 0) (nat_abs m) 0 ≡ 0 = ap (λ v. get_or (set values (nat_abs l) 0) v 0) e ∙ get_or-set_same values (nat_abs l) 0 0 inside in
              ap (λ v. eqb v (code m)) q ∙ code_not_zero m ∙ sym (not_there m e)
          | inr n ↦ ap (λ v. eqb v (code m)) (get_or-set_other values (nat_abs l) (nat_abs m) 0 0 n) ∙ held.says m p ∙ popped_other m (λ s. n (ap nat_abs s))
        ];
        many =
            let e : sum_by filled (set values (nat_abs l) 0) + filled (get_or values (nat_abs l) 0) ≡ sum_by filled values + filled 0 = sum_by-set filled values (nat_abs l) 0 0 inside in
            let f : filled (get_or values (nat_abs l) 0) ≡ 1 = ap filled code_here ∙ filled_code l in
            let g : length (lits ++ l ∷ []) ≡ length lits + 1 = popped_long in
            omega (arith, held.many);
        over = popped_over.0;
        there = λ j h. ap (λ v. get_or places (nat_abs v) 0) (sym (get_or_append_left lits (l ∷ []) (pos 0) j h)) ∙ held.there j (let q = popped_long in omega arith);
        reasons_size = let a : length (reasons ++ r ∷ []) ≡ length reasons + 1 = length_push reasons r in let b : length (reasons ++ r ∷ []) ≡ length (lits ++ l ∷ []) = held.reasons_size in let q = popped_long in omega arith;
        marks_within = below;
        marks_rise = held.marks_rise;
        marks_few = few;
      }
    where
      code_not_zero : (m : ℤ) → eqb 0 (code m) ≡ false
      code_not_zero (pos a) = refl
      code_not_zero (negsuc a) = refl

      filled_code : (m : ℤ) → filled (code m) ≡ 1
      filled_code (pos a) = refl
      filled_code (negsuc a) = refl

      not_there : (m : ℤ) → nat_abs m ≡ nat_abs l → is_fact lits m ≡ false
      not_there m e = elim (cases_Bool (is_fact lits m)) [ inl k ↦ absurd (popped_alone m k e) | inr f ↦ f ]

pub marks_at_least : (marks : List ℕ) → ((i k : ℕ) → i < k → k < length marks → get_or marks i 0 < get_or marks k 0) → (k : ℕ) → k < length marks → k ≤ get_or marks k 0
marks_at_least marks rise zero h = omega arith
marks_at_least marks rise (suc k) h =
    let before : k ≤ get_or marks k 0 = marks_at_least marks rise k (omega arith) in
    let step : get_or marks k 0 < get_or marks (suc k) 0 = rise k (suc k) (omega arith) h in
    omega arith

pub pop_take : {X : Type 0} (rest : List X) (y : X) (xs start : List X) (n k : ℕ) → xs ≡ rest ++ y ∷ [] → xs ≡ take n start → length rest ≡ k → k ≤ n → rest ≡ take k start
pop_take rest y xs start n k e f g h = sym (take_at rest (y ∷ []) k g) ∙ ap (take k) (sym e ∙ f) ∙ take-take k n start h

pub last_split : (xs : List ℕ) (k : ℕ) → length xs ≡ k + 1 → xs ≡ take k xs ++ get_or xs k 0 ∷ []
last_split xs k h = sym (take_all (k + 1) xs (omega arith)) ∙ take_more xs k 0 (omega arith)

-- where a known literal stands, by its package
module _ (count : ℕ) (values places : List ℕ) (lits : List ℤ) (reasons marks : List ℕ) (held : IsHeld count values places lits reasons marks) (l : ℤ) (known : is_fact lits l ≡ true) where
  pub placed : (get_or places (nat_abs l) 0 < length lits) × (get_or lits (get_or places (nat_abs l) 0) (pos 0) ≡ l)
  placed =
      let s = known_place lits l known in
      let e : get_or places (nat_abs l) 0 ≡ s.0 = ap (λ v. get_or places (nat_abs v) 0) (sym s.2) ∙ held.there s.0 s.1 in
      (omega (arith, s.1), ap (λ v. get_or lits v (pos 0)) e ∙ s.2)

  pub package_placed : nat_abs l < length places
  package_placed = let o = (names_parts count l (all_member (names_package count) lits held.over l known)).1 in rw held.places_size (omega (arith, o))

  pub placed_before : (e : ℕ) → is_fact (take e lits) l ≡ nat_lt (get_or places (nat_abs l) 0) e
  placed_before e = same_bool (is_fact (take e lits) l) (nat_lt (get_or places (nat_abs l) 0) e)
      (λ k.
      let s = known_place (take e lits) l k in
      let long : length (take e lits) ≡ min e (length lits) = length-take e lits in
      let small : s.0 < e = let q = s.1 in omega (arith, q) in
      let inside : s.0 < length lits = let q = s.1 in omega (arith, q) in
      let f : get_or lits s.0 (pos 0) ≡ l = sym (get_or-take e lits s.0 (pos 0) small) ∙ s.2 in
      let g : get_or places (nat_abs l) 0 ≡ s.0 = ap (λ v. get_or places (nat_abs v) 0) (sym f) ∙ held.there s.0 inside in
      lt-ltb (get_or places (nat_abs l) 0) e (omega arith))
      (λ h.
      let small : get_or places (nat_abs l) 0 < e = ltb-true (get_or places (nat_abs l) 0) e h in
      let p = placed in
      let long : length (take e lits) ≡ min e (length lits) = length-take e lits in
      let a : is_fact (take e lits) (get_or (take e lits) (get_or places (nat_abs l) 0) (pos 0)) ≡ true = known_at (take e lits) (get_or places (nat_abs l) 0) (let q = p.0 in omega (arith, q)) in
      ap (is_fact (take e lits)) (sym (get_or-take e lits (get_or places (nat_abs l) 0) (pos 0) small ∙ p.1)) ∙ a)
    where
      same_bool : (a b : Bool) → (a ≡ true → b ≡ true) → (b ≡ true → a ≡ true) → a ≡ b
      same_bool true b h k = sym (h refl)
      same_bool false true h k = k refl
      same_bool false false h k = refl
