-- What stays in use is closed up: its steps are numbered anew, and are a derivation still.
use Rattle.std.proofs.Common.{◌≡◌, ℕ, zero, suc, ◌+◌, ◌-◌, ◌<◌, ◌≤◌, Bool, true, false, List, [], ◌∷◌, ◌++◌, length, map, filter, Some, inl, inr, refl, sym, ap, ◌∙◌, subst, arith, add-one, if◌then◌else◌}
use Rattle.std.specs.Prelude.{ℤ, slice_get, slice_index_or, nat_lt, unwrap_or}
use Rattle.std.specs.List.{list_all, range_with_len}
use Rattle.std.proofs.lemmas.Bool.{and_from, cases_Bool, cases_lt, cond-true, cond-false, false≢true, lt-ltb, ltb-true}
use Rattle.std.proofs.lemmas.List.Folds.{list_all-append}
use Rattle.solv_derive.specs.Leaves.{named_rules}
use Rattle.solv_derive.specs.Inner.Leaves.{rules_of}
use Rattle.solv_derive.specs.declared.logs.Step.{Step}
use Rattle.solv_pack.specs.Inner.Packing.{kept}
use Rattle.solv_derive.specs.Inner.Trimming.{in_use_from, rank_from, renumbered, renumbered_step, used_alone, is_on, hints_at}
use Rattle.solv_derive.proofs.Ranks.{rank_few, rank_on, rank_off}
use Rattle.solv_derive.proofs.Staying.{steps_good, over_still}
use Rattle.solv_core.specs.Inner.Holding.{entry_of, IsStepAt, AreEntries, AreDerived, numbers_on}
use Rattle.solv_core.specs.declared.ledger.Entry.{Entry}
use Rattle.solv_core.proofs.Holding.{some_step, renumbered_alike, renumbered_twice, hint_before, rules_same}
use Rattle.solv_list.proofs.Lists.{place_there}

pub index_at : (xs : List ℕ) (i x d : ℕ) → slice_get xs i ≡ Some x → slice_index_or xs i d ≡ x
index_at [] i x d e = absurd (cc)
index_at (y ∷ xs) zero x d e = ap (λ o. unwrap_or o y) e
index_at (y ∷ xs) (suc i) x d e = index_at xs i x d e

get_map : {X Y : Type 0} (f : X → Y) (xs : List X) (i : ℕ) (y : Y) → slice_get (map f xs) i ≡ Some y → (x : X) × ((slice_get xs i ≡ Some x) × (f x ≡ y))
get_map f [] i y e = absurd (cc)
get_map f (x ∷ xs) zero y e = (x, (refl, ap (λ o. unwrap_or o (f x)) e))
get_map f (x ∷ xs) (suc i) y e = get_map f xs i y e

module _ (on : ℕ → Bool) where
  abbrev rank : ℕ → ℕ
  rank = rank_from on 0

  pub rank_less : (n m : ℕ) → n < m → on n ≡ true → rank n < rank m
  rank_less n zero less h = absurd (omega (arith, less))
  rank_less n (suc m) less h =
      let next : rank (suc m) ≡ rank (m + 1) = ap rank (sym (add-one m)) in
      elim (cases_Bool (on m)) [
        | inl y ↦
            let up : rank (m + 1) ≡ rank m + 1 = rank_on on m y in
            elim (cases_lt n m) [
              | inl before ↦ let r = rank_less n m before h in omega (arith, r, next, up)
              | inr here ↦ let e : n ≡ m = omega (arith, less, here) in let f : rank n ≡ rank m = ap rank e in omega (arith, next, up, f)
            ]
        | inr n_off ↦
            let same : rank (m + 1) ≡ rank m = rank_off on m n_off in
            elim (cases_lt n m) [
              | inl before ↦ let r = rank_less n m before h in omega (arith, r, next, same)
              | inr here ↦ let e : n ≡ m = omega (arith, less, here) in absurd (false≢true (sym n_off ∙ ap on (sym e) ∙ h))
            ]
      ]

  -- an element of those in use is one of the list
  abbrev StandsAt : {X : Type 0} → ℕ → List X → ℕ → X → Type 0
  StandsAt k xs j x = (n : ℕ) × ((on (k + n) ≡ true) × ((slice_get xs n ≡ Some x) × (rank_from on k n ≡ j)))

  first_place : {X : Type 0} (k : ℕ) (y : X) (xs : List X) (x : X) (j : ℕ) → on k ≡ true → slice_get (y ∷ in_use_from on (suc k) xs) j ≡ Some x → ((i : ℕ) → slice_get (in_use_from on (suc k) xs) i ≡ Some x → StandsAt (suc k) xs i x) → StandsAt k (y ∷ xs) j x
  first_place k y xs x zero h f rest = let z : k + 0 ≡ k = omega arith in (0, (ap on z ∙ h, (f, refl)))
  first_place k y xs x (suc j) h f rest =
      let r = rest j f in
      let z : suc k + r.0 ≡ k + suc r.0 = omega arith in
      (suc r.0, (ap on (sym z) ∙ r.1.0, (r.1.1.0, cond-true (on k) (suc (rank_from on (suc k) r.0)) (rank_from on (suc k) r.0) h ∙ ap suc r.1.1.1)))

  pub in_use_place : {X : Type 0} (k : ℕ) (xs : List X) (j : ℕ) (x : X) → slice_get (in_use_from on k xs) j ≡ Some x → StandsAt k xs j x
  in_use_place k [] j x e = absurd (cc)
  in_use_place k (y ∷ xs) j x e = elim (cases_Bool (on k)) [
    | inl h ↦ first_place k y xs x j h (ap (λ l. slice_get l j) (sym (cond-true (on k) (y ∷ in_use_from on (suc k) xs) (in_use_from on (suc k) xs) h)) ∙ e) (λ i f. in_use_place (suc k) xs i x f)
    | inr h ↦
        let r = in_use_place (suc k) xs j x (ap (λ l. slice_get l j) (sym (cond-false (on k) (y ∷ in_use_from on (suc k) xs) (in_use_from on (suc k) xs) h)) ∙ e) in
        let z : suc k + r.0 ≡ k + suc r.0 = omega arith in
        (suc r.0, (ap on (sym z) ∙ r.1.0, (r.1.1.0, cond-false (on k) (suc (rank_from on (suc k) r.0)) (rank_from on (suc k) r.0) h ∙ r.1.1.1)))
  ]

  in_use_many : {X : Type 0} (k : ℕ) (xs : List X) → length (in_use_from on k xs) ≡ rank_from on k (length xs)
  in_use_many k [] = refl
  in_use_many k (x ∷ xs) = by (on k) (in_use_many (suc k) xs)
    where
      by : (b : Bool) → length (in_use_from on (suc k) xs) ≡ rank_from on (suc k) (length xs) → length (if b then x ∷ in_use_from on (suc k) xs else in_use_from on (suc k) xs) ≡ (if b then suc (rank_from on (suc k) (length xs)) else rank_from on (suc k) (length xs))
      by true h = ap suc h
      by false h = h

  module _ (number : ℕ → ℕ) where
    pub numbers_many : (k m : ℕ) → length (numbers_on on number k m) ≡ rank_from on k m
    numbers_many k zero = refl
    numbers_many k (suc m) = by (on k) (numbers_many (suc k) m)
      where
        by : (b : Bool) → length (numbers_on on number (suc k) m) ≡ rank_from on (suc k) m → length (if b then number k ∷ numbers_on on number (suc k) m else numbers_on on number (suc k) m) ≡ (if b then suc (rank_from on (suc k) m) else rank_from on (suc k) m)
        by true h = ap suc h
        by false h = h

    pub numbers_at : (k n m : ℕ) → n < m → on (k + n) ≡ true → slice_get (numbers_on on number k m) (rank_from on k n) ≡ Some (number (k + n))
    numbers_at k n zero less h = absurd (omega (arith, less))
    numbers_at k zero (suc m) less h =
        let e : k + 0 ≡ k = omega arith in
        ap (λ l. slice_get l 0) (cond-true (on k) (number k ∷ numbers_on on number (suc k) m) (numbers_on on number (suc k) m) (ap on (sym e) ∙ h)) ∙ ap (λ v. Some (number v)) (sym e)
    numbers_at k (suc n) (suc m) less h =
        let e : suc k + n ≡ k + suc n = omega arith in
        by (on k) (numbers_at (suc k) n m (omega (arith, less)) (ap on e ∙ h) ∙ ap (λ v. Some (number v)) e)
      where
        by : (b : Bool) → slice_get (numbers_on on number (suc k) m) (rank_from on (suc k) n) ≡ Some (number (k + suc n))
            → slice_get (if b then number k ∷ numbers_on on number (suc k) m else numbers_on on number (suc k) m) (if b then suc (rank_from on (suc k) n) else rank_from on (suc k) n) ≡ Some (number (k + suc n))
        by true f = f
        by false f = f

    pub numbers_more : (k m : ℕ) → numbers_on on number k (suc m) ≡ numbers_on on number k m ++ (if on (k + m) then number (k + m) ∷ [] else [])
    numbers_more k zero = let e : k + 0 ≡ k = omega arith in ap (λ v. if on v then number v ∷ [] else []) (sym e)
    numbers_more k (suc m) =
        let e : suc k + m ≡ k + suc m = omega arith in
        by (on k) (numbers_more (suc k) m ∙ ap (λ v. numbers_on on number (suc k) m ++ (if on v then number v ∷ [] else [])) e)
      where
        by : (b : Bool) → numbers_on on number (suc k) (suc m) ≡ numbers_on on number (suc k) m ++ (if on (k + suc m) then number (k + suc m) ∷ [] else [])
            → (if b then number k ∷ numbers_on on number (suc k) (suc m) else numbers_on on number (suc k) (suc m))
            ≡ (if b then number k ∷ numbers_on on number (suc k) m else numbers_on on number (suc k) m) ++ (if on (k + suc m) then number (k + suc m) ∷ [] else [])
        by true h = ap (λ l. number k ∷ l) h
        by false h = h

  -- flags of the rules keep what is in use
  pub kept_is : {X : Type 0} (flags : List Bool) (xs : List X) (k : ℕ) → length flags ≡ length xs → ((n : ℕ) → n < length xs → on (k + n) ≡ is_on flags n) → kept flags xs ≡ in_use_from on k xs
  kept_is [] [] k e h = refl
  kept_is [] (x ∷ xs) k e h = absurd (omega (arith, e))
  kept_is (b ∷ flags) [] k e h = absurd (omega (arith, e))
  kept_is (true ∷ flags) (x ∷ xs) k e h =
      let z : k + 0 ≡ k = omega arith in
      let o : on k ≡ true = ap on (sym z) ∙ h 0 (omega arith) in
      ap (λ l. x ∷ l) (kept_is flags xs (suc k) (omega (arith, e)) (λ n l. let y : suc k + n ≡ k + suc n = omega arith in ap on y ∙ h (suc n) (omega (arith, l)))) ∙ sym (cond-true (on k) (x ∷ in_use_from on (suc k) xs) (in_use_from on (suc k) xs) o)
  kept_is (false ∷ flags) (x ∷ xs) k e h =
      let z : k + 0 ≡ k = omega arith in
      let o : on k ≡ false = ap on (sym z) ∙ h 0 (omega arith) in
      kept_is flags xs (suc k) (omega (arith, e)) (λ n l. let y : suc k + n ≡ k + suc n = omega arith in ap on y ∙ h (suc n) (omega (arith, l))) ∙ sym (cond-false (on k) (x ∷ in_use_from on (suc k) xs) (in_use_from on (suc k) xs) o)

  clauses_still : (k : ℕ) (steps : List Step) → in_use_from on k (map (λ s. s.clause) steps) ≡ map (λ s. s.clause) (map (renumbered_step rank) (in_use_from on k steps))
  clauses_still k [] = refl
  clauses_still k (s ∷ steps) = by (on k) (clauses_still (suc k) steps)
    where
      by : (b : Bool) → in_use_from on (suc k) (map (λ t. t.clause) steps) ≡ map (λ t. t.clause) (map (renumbered_step rank) (in_use_from on (suc k) steps))
          → (if b then s.clause ∷ in_use_from on (suc k) (map (λ t. t.clause) steps) else in_use_from on (suc k) (map (λ t. t.clause) steps)) ≡ map (λ t. t.clause) (map (renumbered_step rank) (if b then s ∷ in_use_from on (suc k) steps else in_use_from on (suc k) steps))
      by true h = ap (λ l. s.clause ∷ l) h
      by false h = h

  pub named_still : (p : ℕ → Bool) (k : ℕ) (steps : List Step) → ((n : ℕ) (s : Step) → slice_get steps n ≡ Some s → on (k + n) ≡ true → list_all p (rules_of s.hints) ≡ true) → list_all p (named_rules (map (renumbered_step rank) (in_use_from on k steps))) ≡ true
  named_still p k [] h = refl
  named_still p k (s ∷ steps) h =
      let rest = named_still p (suc k) steps (λ n t at y. let z : suc k + n ≡ k + suc n = omega arith in h (suc n) t at (ap on (sym z) ∙ y)) in
      elim (cases_Bool (on k)) [
        | inl y ↦
            let z : k + 0 ≡ k = omega arith in
            ap (λ l. list_all p (named_rules (map (renumbered_step rank) l))) (cond-true (on k) (s ∷ in_use_from on (suc k) steps) (in_use_from on (suc k) steps) y)
            ∙ list_all-append p (rules_of (map (renumbered rank) s.hints)) (named_rules (map (renumbered_step rank) (in_use_from on (suc k) steps)))
            ∙ and_from (list_all p (rules_of (map (renumbered rank) s.hints))) (list_all p (named_rules (map (renumbered_step rank) (in_use_from on (suc k) steps)))) (ap (list_all p) (rules_same rank s.hints) ∙ h 0 s refl (ap on z ∙ y)) rest
        | inr n ↦ ap (λ l. list_all p (named_rules (map (renumbered_step rank) l))) (cond-false (on k) (s ∷ in_use_from on (suc k) steps) (in_use_from on (suc k) steps) n) ∙ rest
      ]

  -- the steps in use are entries under the numbers that they had
  module _ (entries : List Entry) (number : ℕ → ℕ) (steps : List Step) (h : AreEntries entries number steps) (first : ℕ)
      (closed : (n : ℕ) (s : Step) → slice_get steps n ≡ Some s → on n ≡ true → (m : ℕ) → hints_at m s.hints ≡ true → on m ≡ true) where
    abbrev total : ℕ
    total = length steps

    abbrev left : List ℕ
    left = numbers_on on number 0 total

    abbrev fresh : ℕ → ℕ
    fresh = entry_of left first

    from_zero : (n : ℕ) → 0 + n ≡ n
    from_zero n = omega arith

    within_left : (n : ℕ) → n < total → on n ≡ true → rank n < length left
    within_left n less y = let r = rank_less n total less y in let e : length left ≡ rank total = numbers_many number 0 total in omega (arith, r, e)

    fresh_is : (n : ℕ) → n < total → on n ≡ true → fresh (rank n) ≡ number n
    fresh_is n less y =
        let few = within_left n less y in
        let at : slice_get left (rank n) ≡ Some (number n) = numbers_at number 0 n total less (ap on (from_zero n) ∙ y) ∙ ap (λ v. Some (number v)) (from_zero n) in
        cond-true (nat_lt (rank n) (length left)) (slice_index_or left (rank n) 0) (first + (rank n - length left)) (lt-ltb (rank n) (length left) few) ∙ index_at left (rank n) (number n) 0 at

    many_steps : length (used_alone on rank steps) ≡ rank total
    many_steps = long (in_use_from on 0 steps) ∙ in_use_many 0 steps
      where
        long : (xs : List Step) → length (map (renumbered_step rank) xs) ≡ length xs
        long [] = refl
        long (x ∷ xs) = ap suc (long xs)

    -- each step that is left was one
    record WasStep (i : ℕ) (s : Step) : Type 0 where
      n : ℕ
      was : Step
      there : slice_get steps n ≡ Some was
      yes : on n ≡ true
      at : rank n ≡ i
      is : renumbered_step rank was ≡ s

    was_step : (i : ℕ) (s : Step) → slice_get (used_alone on rank steps) i ≡ Some s → WasStep i s
    was_step i s e =
        let m = get_map (renumbered_step rank) (in_use_from on 0 steps) i s e in
        let p = in_use_place 0 steps i m.0 m.1.0 in
        record { n = p.0; was = m.0; there = p.1.1.0; yes = ap on (sym (from_zero p.0)) ∙ p.1.0; at = p.1.1.1; is = m.1.1 }

    pub entries_left : AreEntries entries fresh (used_alone on rank steps)
    entries_left = record {
      few = let r : rank total ≤ total = rank_few on 0 total in omega (arith, r, many_steps, h.few);
      rising = λ i k less within.
          let a = some_step (used_alone on rank steps) i (omega (arith, less, within)) in
          let b = some_step (used_alone on rank steps) k within in
          let x = was_step i a.0 a.1 in
          let y = was_step k b.0 b.1 in
          let small : x.n < total = place_there steps x.n x.was x.there in
          let large : y.n < total = place_there steps y.n y.was y.there in
          let order : x.n < y.n = elim (cases_lt x.n y.n) [
            | inl o ↦ o
            | inr o ↦ elim (cases_lt y.n x.n) [
              | inl p ↦ let r = rank_less y.n x.n p y.yes in absurd (omega (arith, r, x.at, y.at, less))
              | inr p ↦ let e : x.n ≡ y.n = omega (arith, o, p) in let f : rank x.n ≡ rank y.n = ap rank e in absurd (omega (arith, f, x.at, y.at, less))
            ]
          ] in
          let up : number x.n < number y.n = h.rising x.n y.n order large in
          let u : fresh i ≡ number x.n = ap fresh (sym x.at) ∙ fresh_is x.n small x.yes in
          let v : fresh k ≡ number y.n = ap fresh (sym y.at) ∙ fresh_is y.n large y.yes in
          omega (arith, up, u, v);
      earlier = λ i m s e hinted.
          let x = was_step i s e in
          let q = hint_before rank m x.was.hints (ap (λ v. hints_at m v.hints) x.is ∙ hinted) in
          let before : q.0 < x.n = h.earlier x.n q.0 x.was x.there q.1.0 in
          let r = rank_less q.0 x.n before (closed x.n x.was x.there x.yes q.0 q.1.0) in
          let same : rank q.0 ≡ m = q.1.1 in
          omega (arith, r, same, x.at);
      held = λ i s e.
          let x = was_step i s e in
          let small : x.n < total = place_there steps x.n x.was x.there in
          let a = h.held x.n x.was x.there in
          let u : fresh i ≡ number x.n = ap fresh (sym x.at) ∙ fresh_is x.n small x.yes in
          let P : Step → Type 0 = λ v. IsStepAt entries (fresh i) (renumbered_step fresh v) in
          let hints : map (renumbered fresh) (map (renumbered rank) x.was.hints) ≡ map (renumbered number) x.was.hints =
          renumbered_twice fresh rank x.was.hints
          ∙ renumbered_alike (λ v. fresh (rank v)) number x.was.hints (λ v k. let b : v < x.n = h.earlier x.n v x.was x.there k in fresh_is v (omega (arith, b, small)) (closed x.n x.was x.there x.yes v k)) in
          subst P x.is (a.0, (ap (slice_get entries) u ∙ a.1.0, (a.1.1.0, a.1.1.1 ∙ sym hints)));
    }

    pub derived_left : (book clauses : List (List ℤ)) (packages : ℕ) → AreDerived book packages clauses steps → AreDerived book packages (in_use_from on 0 clauses) (used_alone on rank steps)
    derived_left book clauses packages d = record {
      are = ap (in_use_from on 0) d.are ∙ clauses_still 0 steps;
      good = steps_good on rank (λ n y. refl) book [] 0 steps refl (λ j s at y n less hinted. closed j s at (ap on (sym (from_zero j)) ∙ y) n hinted) d.good;
      over = over_still on rank (λ n y. refl) packages 0 steps d.over;
    }

    pub left_many : length left ≡ length (used_alone on rank steps)
    left_many = numbers_many number 0 total ∙ sym many_steps

-- the numbers in use, one by one
abbrev pub numbers_from : (ℕ → ℕ) → ℕ → ℕ → List ℕ
numbers_from number k zero = []
numbers_from number k (suc m) = number k ∷ numbers_from number (suc k) m

from_more : (number : ℕ → ℕ) (k m d : ℕ) → numbers_from number k (m + d) ≡ numbers_from number k m ++ numbers_from number (k + m) d
from_more number k zero d = let e : k + 0 ≡ k = omega arith in let z : 0 + d ≡ d = omega arith in ap (numbers_from number k) z ∙ ap (λ v. numbers_from number v d) (sym e)
from_more number k (suc m) d =
    let e : suc k + m ≡ k + suc m = omega arith in
    let z : suc m + d ≡ suc (m + d) = omega arith in
    ap (numbers_from number k) z ∙ ap (λ l. number k ∷ l) (from_more number (suc k) m d ∙ ap (λ v. numbers_from number (suc k) m ++ numbers_from number v d) e)

from_list : (number : ℕ → ℕ) (k : ℕ) (xs : List ℕ) → ((i : ℕ) → i < length xs → number (k + i) ≡ slice_index_or xs i 0) → numbers_from number k (length xs) ≡ xs
from_list number k [] h = refl
from_list number k (x ∷ xs) h =
    let e : k + 0 ≡ k = omega arith in
    ap (λ v. v ∷ numbers_from number (suc k) (length xs)) (ap number (sym e) ∙ h 0 (omega arith))
    ∙ ap (λ l. x ∷ l) (from_list number (suc k) xs (λ i l. let z : suc k + i ≡ k + suc i = omega arith in ap number z ∙ h (suc i) (omega (arith, l))))

from_range : (number : ℕ → ℕ) (k a d : ℕ) → ((i : ℕ) → i < d → number (k + i) ≡ a + i) → numbers_from number k d ≡ range_with_len a d
from_range number k a zero h = refl
from_range number k a (suc d) h =
    let e : k + 0 ≡ k = omega arith in
    let y : a + 0 ≡ a = omega arith in
    ap (λ v. v ∷ numbers_from number (suc k) d) (ap number (sym e) ∙ h 0 (omega arith) ∙ y)
    ∙ ap (λ l. a ∷ l) (from_range number (suc k) (a + 1) d (λ i l. let z : suc k + i ≡ k + suc i = omega arith in let x : a + suc i ≡ a + 1 + i = omega arith in ap number z ∙ h (suc i) (omega (arith, l)) ∙ x))

pub numbers_are : (left : List ℕ) (first d : ℕ) → left ++ range_with_len first d ≡ numbers_from (entry_of left first) 0 (length left + d)
numbers_are left first d = sym (
    from_more (entry_of left first) 0 (length left) d
    ∙ ap (λ l. l ++ numbers_from (entry_of left first) (0 + length left) d)
    (from_list (entry_of left first) 0 left (λ i l. let z : 0 + i ≡ i = omega arith in ap (entry_of left first) z ∙ cond-true (nat_lt i (length left)) (slice_index_or left i 0) (first + (i - length left)) (lt-ltb i (length left) l)))
    ∙ ap (λ l. left ++ l) (from_range (entry_of left first) (0 + length left) first d (λ i l.
    let n : ℕ = 0 + length left + i in
    let off : nat_lt n (length left) ≡ false = not_below n (length left) (omega arith) in
    let e : first + (n - length left) ≡ first + i = omega arith in
    cond-false (nat_lt n (length left)) (slice_index_or left n 0) (first + (n - length left)) off ∙ e))
    )
  where
    not_below : (a b : ℕ) → b ≤ a → nat_lt a b ≡ false
    not_below a b h = elim (cases_Bool (nat_lt a b)) [
      | inr n ↦ n
      | inl y ↦ absurd (let l : a < b = below a b y in omega (arith, l, h))
    ]
      where
        below : (a b : ℕ) → nat_lt a b ≡ true → a < b
        below a b e = ltb-true a b e

-- those that are flagged are those of which the test holds
pub numbers_filtered : (on test : ℕ → Bool) (number : ℕ → ℕ) (k m : ℕ) → ((i : ℕ) → i < m → on (k + i) ≡ test (number (k + i))) → numbers_on on number k m ≡ filter test (numbers_from number k m)
numbers_filtered on test number k zero h = refl
numbers_filtered on test number k (suc m) h =
    let e : k + 0 ≡ k = omega arith in
    let here : on k ≡ test (number k) = ap on (sym e) ∙ h 0 (omega arith) ∙ ap (λ v. test (number v)) e in
    by (on k) (test (number k)) here (numbers_filtered on test number (suc k) m (λ i l. let z : suc k + i ≡ k + suc i = omega arith in ap on z ∙ h (suc i) (omega (arith, l)) ∙ ap (λ v. test (number v)) (sym z)))
  where
    by : (a b : Bool) → a ≡ b → numbers_on on number (suc k) m ≡ filter test (numbers_from number (suc k) m)
        → (if a then number k ∷ numbers_on on number (suc k) m else numbers_on on number (suc k) m) ≡ (if b then number k ∷ filter test (numbers_from number (suc k) m) else filter test (numbers_from number (suc k) m))
    by true true e f = ap (λ l. number k ∷ l) f
    by true false e f = absurd (false≢true (sym e))
    by false true e f = absurd (false≢true e)
    by false false e f = f
