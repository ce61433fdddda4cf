-- A trail whose choices are at rest is the walk of its choices.
use Rattle.std.proofs.Common.{◌≡◌, ℕ, zero, suc, ◌+◌, ◌-◌, ◌<◌, ◌≤◌, Bool, true, false, not, ◌&&◌, ◌||◌, List, [], ◌∷◌, ◌++◌, length, take, get_or, map, Option, Some, None, inl, inr, refl, sym, ap, ◌∙◌, subst, arith, add-one}
use Rattle.std.specs.Prelude.{ℤ, pos, neg_ℤ, nat_abs, nat_lt}
use Rattle.std.specs.List.{list_all}
use Rattle.std.specs.Ordering.{int_eq}
use Rattle.std.proofs.lemmas.Bool.{cases_lt, and_from, lt-ltb, false≢true, cond-true, cond-false}
use Rattle.std.proofs.lemmas.List.{length-map, take_more, take_all, take-take, get_or-take, length-take-le}
use Rattle.std.proofs.lemmas.List.Folds.{list_any-append}
use mathlib.Core.Path.{fun_ext}
use Rattle.solv_pool.specs.Prelude.{is_fact, clashes}
use Rattle.solv_derive.specs.Forced.{is_falsified}
use Rattle.solv_trail.specs.Inner.Derivation.{Within, IsConsistent, Among}
use Rattle.solv_trail.specs.Inner.Derivation.{chosen, forced_by, IsTrail}
use Rattle.solv_trail.specs.Walk.{known_after, walk_within, walk, asserts, met_by_choices}
use Rattle.solv_trail.specs.Inner.Walk.{choice_after, without_last}
use Rattle.solv_derive.proofs.Facts.{known_here, known_later, known_same, known_cases}
use Rattle.solv_trail.proofs.Unit.{given, implied, IsDerived, clash_in_unit, unit_is_clear, unit_is_reached}

pub known_at : (xs : List ℤ) (k : ℕ) → k < length xs → is_fact xs (get_or xs k (pos 0)) ≡ true
known_at [] k h = absurd (omega arith)
known_at (x ∷ xs) zero h = known_here x xs
known_at (x ∷ xs) (suc k) h = known_later x (get_or xs k (pos 0)) xs (known_at xs k (omega arith))

pub known_place : (xs : List ℤ) (l : ℤ) → is_fact xs l ≡ true → (k : ℕ) × (k < length xs) × (get_or xs k (pos 0) ≡ l)
known_place [] l h = absurd (false≢true h)
known_place (x ∷ xs) l h = elim (known_cases x l xs h) [
  | inl e ↦ (0, omega arith, sym e)
  | inr r ↦ let s = known_place xs l r in (suc s.0, omega arith, s.2)
]

get_or-map : (f : ℕ → ℤ) (xs : List ℕ) (k : ℕ) → k < length xs → get_or (map f xs) k (pos 0) ≡ f (get_or xs k 0)
get_or-map f [] k h = absurd (omega arith)
get_or-map f (x ∷ xs) zero h = refl
get_or-map f (x ∷ xs) (suc k) h = get_or-map f xs k (omega arith)

get_or-map_n : (f : ℕ → ℕ) (xs : List ℕ) (k : ℕ) → k < length xs → get_or (map f xs) k 0 ≡ f (get_or xs k 0)
get_or-map_n f [] k h = absurd (omega arith)
get_or-map_n f (x ∷ xs) zero h = refl
get_or-map_n f (x ∷ xs) (suc k) h = get_or-map_n f xs k (omega arith)

pub take_known : (T : List ℤ) (e : ℕ) (l : ℤ) → is_fact (take e T) l ≡ true → is_fact T l ≡ true
take_known T zero l h = absurd (false≢true h)
take_known [] (suc e) l h = h
take_known (x ∷ T) (suc e) l h = elim (known_cases x l (take e T) h) [ inl a ↦ known_same x l T a | inr r ↦ known_later x l T (take_known T e l r) ]

abbrev pub choices_of : List ℤ → List ℕ → List ℕ
choices_of T M = map (λ m. nat_abs (get_or T m (pos 0))) M

-- the first e literals hold the first i choices
record Cut (T : List ℤ) (M : List ℕ) (i e : ℕ) : Type 0 where
  ends : e ≤ length T
  many : i ≤ length M
  below : (k : ℕ) → k < i → get_or M k 0 < e
  above : (k : ℕ) → k < length M → get_or M k 0 < e → k < i

pub known_up : (T : List ℤ) (j : ℕ) → j < length T → (l : ℤ) → is_fact (take j T) l ≡ true → is_fact (take (suc j) T) l ≡ true
known_up T j h l k =
    let e : take (suc j) T ≡ take j T ++ get_or T j (pos 0) ∷ [] = rw (← add-one) (take_more T j (pos 0) h) in
    ap (λ v. is_fact v l) e ∙ list_any-append (int_eq l) (take j T) (get_or T j (pos 0) ∷ []) ∙ left (is_fact (take j T) l) (is_fact (get_or T j (pos 0) ∷ []) l) k
  where
    left : (a b : Bool) → a ≡ true → (a || b) ≡ true
    left true b g = refl
    left false b g = absurd (false≢true g)

pub known_last : (T : List ℤ) (j : ℕ) → j < length T → is_fact (take (suc j) T) (get_or T j (pos 0)) ≡ true
known_last [] j h = absurd (omega arith)
known_last (x ∷ T) zero h = known_here x []
known_last (x ∷ T) (suc j) h = known_later x (get_or T j (pos 0)) (take (suc j) T) (known_last T j (omega arith))

asserts_same : (A B : List ℤ) (d : List ℤ) → is_fact A ≡ is_fact B → asserts A d ≡ asserts B d
asserts_same A B [] e = refl
asserts_same A B (l ∷ ls) e = ap (λ k. (not (k l) && not (k (neg_ℤ l))) && list_all (λ m. k (neg_ℤ m)) ls) e

module _ (F : List (List ℤ)) (asks : (ℤ → Bool) → Option ℕ) (T : List ℤ) (M : List ℕ) (trail : IsTrail F asks T M) where
  abbrev starts : ℕ → List ℤ
  starts i = map pos (take i (choices_of T M))

  start_length : (i : ℕ) → i ≤ length M → length (take i (choices_of T M)) ≡ i
  start_length i h = length-take-le i (choices_of T M) (rw length-map h)

  start_at : (i k : ℕ) → k < i → i ≤ length M → get_or (starts i) k (pos 0) ≡ pos (nat_abs (get_or T (get_or M k 0) (pos 0)))
  start_at i k h g =
      let long : k < length (take i (choices_of T M)) = rw (start_length i g) h in
      get_or-map pos (take i (choices_of T M)) k long ∙ ap pos (get_or-take i (choices_of T M) k 0 h ∙ get_or-map_n (λ m. nat_abs (get_or T m (pos 0))) M k (omega arith))

  starts_length : (i : ℕ) → i ≤ length M → length (starts i) ≡ i
  starts_length i h = length-map (take i (choices_of T M)) pos ∙ start_length i h

  cut_derived : (i e : ℕ) → Cut T M i e → IsDerived F (starts i) (take e T)
  cut_derived i e cut = record {
    at = λ j l.
        let long : length (take e T) ≡ e = length-take-le e T cut.ends in
        let small : j < e = omega arith in
        let same : get_or (take e T) j (pos 0) ≡ get_or T j (pos 0) = get_or-take e T j (pos 0) small in
        elim (trail.entered j (omega (arith, cut.ends))) [
          | chosen k h g ↦
              let kept : k < i = cut.above k h (let P : ℕ → Type 0 = λ v. v < e in subst P (sym g) small) in
              let here : is_fact (starts i) (get_or (starts i) k (pos 0)) ≡ true = known_at (starts i) k (rw (starts_length i cut.many) kept) in
              let e2 : get_or (starts i) k (pos 0) ≡ get_or (take e T) j (pos 0) =
              start_at i k kept cut.many ∙ sym (trail.choices k h).positive ∙ ap (λ v. get_or T v (pos 0)) g ∙ sym same in
              given (let P : ℤ → Type 0 = λ v. is_fact (starts i) v ≡ true in subst P e2 here)
          | forced_by c a q ↦ implied c a (rw (take-take j e T (omega arith), same) q)
        ];
  }

  cut_starts : (i e : ℕ) → Cut T M i e → Within (starts i) (take e T)
  cut_starts i e cut = record {
    sub = λ l h.
        let s = known_place (starts i) l h in
        let small : s.0 < i = let P : ℕ → Type 0 = λ v. s.0 < v in subst P (starts_length i cut.many) s.1 in
        let m : ℕ = get_or M s.0 0 in
        let less : m < e = cut.below s.0 small in
        let long : length (take e T) ≡ e = length-take-le e T cut.ends in
        let is : get_or (take e T) m (pos 0) ≡ l =
        get_or-take e T m (pos 0) less ∙ (trail.choices s.0 (omega (arith, cut.many))).positive ∙ sym (start_at i s.0 small cut.many) ∙ s.2 in
        let P : ℤ → Type 0 = λ v. is_fact (take e T) v ≡ true in
        subst P is (known_at (take e T) m (rw long less));
  }

  cut_before : (i : ℕ) → i < length M → Cut T M i (get_or M i 0)
  cut_before i h = record {
    ends = omega (arith, trail.within i h);
    many = omega arith;
    below = λ k g. trail.rising k i g h;
    above = λ k g less. elim (cases_lt k i) [ inl a ↦ a | inr b ↦ absurd (not_above k g b less) ];
  }
    where
      not_above : (k : ℕ) → k < length M → i ≤ k → get_or M k 0 < get_or M i 0 → ⊥
      not_above k g b less = elim (cases_lt i k) [
        | inl a ↦ omega (arith, trail.rising i k a g)
        | inr a ↦ let e : i ≡ k = omega arith in let f : get_or M i 0 ≡ get_or M k 0 = ap (λ v. get_or M v 0) e in omega arith
      ]

  cut_all : Cut T M (length M) (length T)
  cut_all = record { ends = omega arith; many = omega arith; below = λ k g. trail.within k g; above = λ k g less. g }

  apart_take : (e : ℕ) → IsConsistent (take e T)
  apart_take e = record { apart = λ l k f. trail.apart.apart l (inside l k) (inside (neg_ℤ l) f) }
    where
      inside : (l : ℤ) → is_fact (take e T) l ≡ true → is_fact T l ≡ true
      inside l h = take_known T e l h

  module _ (n : ℕ) (room : length T ≤ n) (few : length M ≤ n) where
    -- before each choice propagation from nothing knows exactly the trail
    before_choice : (i : ℕ) → i < length M → is_fact (known_after n F asks (take i (choices_of T M))) ≡ is_fact (take (get_or M i 0) T)
    before_choice i h =
        let m : ℕ = get_or M i 0 in
        let cut : Cut T M i m = cut_before i h in
        let long : length (take m T) ≤ n + 1 = rw (length-take-le m T cut.ends) (omega (arith, cut.ends)) in
        fun_ext (unit_is_reached n F (starts i) (take m T) (cut_derived i m cut) long (cut_starts i m cut) (apart_take m) (trail.choices i h).quiet)

    clear_before : (i : ℕ) → i < length M → clashes F (known_after n F asks (take i (choices_of T M))) ≡ false
    clear_before i h =
        let m : ℕ = get_or M i 0 in
        let cut : Cut T M i m = cut_before i h in
        let long : length (take m T) ≤ n + 1 = rw (length-take-le m T cut.ends) (omega (arith, cut.ends)) in
        unit_is_clear n F (starts i) (take m T) (cut_derived i m cut) long (cut_starts i m cut) (apart_take m) (trail.choices i h).quiet

    choice_is : (i : ℕ) → i < length M → choice_after n F asks (take i (choices_of T M)) ≡ Some (get_or (choices_of T M) i 0)
    choice_is i h =
        cond-false (clashes F (known_after n F asks (take i (choices_of T M)))) None (asks (is_fact (known_after n F asks (take i (choices_of T M))))) (clear_before i h)
        ∙ ap asks (before_choice i h)
        ∙ (trail.choices i h).asked
        ∙ ap Some (sym (get_or-map_n (λ m. nat_abs (get_or T m (pos 0))) M i h))

    abbrev next : ℕ → List ℕ → Option ℕ → List ℕ
    next fuel taken o = elim o [ None ↦ taken | Some p ↦ walk_within n F asks fuel (taken ++ p ∷ []) ]

    walk_on : (fuel d i : ℕ) → i + d ≡ length M → d ≤ fuel → choice_after n F asks (choices_of T M) ≡ None → walk_within n F asks fuel (take i (choices_of T M)) ≡ choices_of T M
    walk_on zero d i e h stop = take_all i (choices_of T M) (rw length-map (omega arith))
    walk_on (suc fuel) zero i e h stop =
        let whole : take i (choices_of T M) ≡ choices_of T M = take_all i (choices_of T M) (rw length-map (omega arith)) in
        ap (walk_within n F asks (suc fuel)) whole ∙ ap (next fuel (choices_of T M)) stop
    walk_on (suc fuel) (suc d) i e h stop =
        let small : i < length M = omega arith in
        let one : take i (choices_of T M) ++ get_or (choices_of T M) i 0 ∷ [] ≡ take (i + 1) (choices_of T M) = sym (take_more (choices_of T M) i 0 (rw length-map small)) in
        ap (next fuel (take i (choices_of T M))) (choice_is i small) ∙ ap (walk_within n F asks fuel) one ∙ walk_on fuel d (i + 1) (omega arith) (omega arith) stop

    -- where the trail makes a clause false, the walk is its choices, and clashes
    clash_now : (c : List ℤ) → Among c F → is_falsified T c ≡ true → clashes F (known_after n F asks (choices_of T M)) ≡ true
    clash_now c a f =
        let all : take (length T) T ≡ T = take_all (length T) T (omega arith) in
        let every : take (length M) (choices_of T M) ≡ choices_of T M = take_all (length M) (choices_of T M) (rw length-map (omega arith)) in
        let derived : IsDerived F (map pos (choices_of T M)) T = rw (all, every) at (cut_derived (length M) (length T) cut_all) in
        clash_in_unit n F (map pos (choices_of T M)) T derived (omega arith) c a f

    pub walk_is : (c : List ℤ) → Among c F → is_falsified T c ≡ true → walk n F asks ≡ choices_of T M
    walk_is c a f =
        walk_on n (length M) 0 (omega arith) few
        (cond-true (clashes F (known_after n F asks (choices_of T M))) None (asks (is_fact (known_after n F asks (choices_of T M)))) (clash_now c a f))

    -- and the walk without its last package leads to the trail before its last choice
    asserts_there : (d : List ℤ) → 0 < length M → asserts (take (get_or M (length M - 1) 0) T) d ≡ true → asserts (known_after n F asks (without_last (choices_of T M))) d ≡ true
    asserts_there d some h =
        let last : ℕ = length M - 1 in
        let e : length (choices_of T M) - 1 ≡ last = ap (λ v. v - 1) (length-map M (λ m. nat_abs (get_or T m (pos 0)))) in
        let known : is_fact (known_after n F asks (without_last (choices_of T M))) ≡ is_fact (take (get_or M last 0) T) =
        ap (λ v. is_fact (known_after n F asks (take v (choices_of T M)))) e ∙ before_choice last (omega arith) in
        asserts_same (known_after n F asks (without_last (choices_of T M))) (take (get_or M last 0) T) d known ∙ h

    pub met : (c d : List ℤ) → Among c F → is_falsified T c ≡ true → 0 < length M → asserts (take (get_or M (length M - 1) 0) T) d ≡ true → met_by_choices n F asks d ≡ true
    met c d a f some h =
        let is : walk n F asks ≡ choices_of T M = walk_is c a f in
        let many : nat_lt 0 (length (choices_of T M)) ≡ true = lt-ltb 0 (length (choices_of T M)) (rw length-map some) in
        let P : List ℕ → Type 0 = λ v. (nat_lt 0 (length v) && clashes F (known_after n F asks v) && asserts (known_after n F asks (without_last v)) d) ≡ true in
        subst P (sym is) (and_from (nat_lt 0 (length (choices_of T M)) && clashes F (known_after n F asks (choices_of T M))) (asserts (known_after n F asks (without_last (choices_of T M))) d)
        (and_from (nat_lt 0 (length (choices_of T M))) (clashes F (known_after n F asks (choices_of T M))) many (clash_now c a f))
        (asserts_there d some h))
