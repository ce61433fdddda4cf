-- The places of parts: the numbers that pass a test, ascending.
use Rattle.std.proofs.Common.{◌≡◌, ℕ, zero, suc, ◌+◌, ◌<◌, ◌≤◌, Bool, true, false, ◌&&◌, List, [], ◌∷◌, ◌++◌, length, filter, map, take, cond, inl, inr, refl, sym, ap, ◌∙◌, arith, eqb, eq-eqb}
use Rattle.std.specs.Prelude.{slice_index, nat_lt, Err}
use Rattle.std.specs.List.{range_with_len}
use Rattle.std.proofs.Math.ListN.{get_or-append, length-append}
use Rattle.std.proofs.Math.Seq.{get_or-append_seam}
use Rattle.std.proofs.lemmas.Bool.{and_parts, and_from, false≢true, eqb-true, ltb-true, or_left, or_right, cases_lt}
use Rattle.std.proofs.lemmas.Bool.Decides.{eqb_tells}
use Rattle.std.proofs.lemmas.List.{append-nil}
use Rattle.solv_graph.specs.Graphs.{is_in, times}
use Rattle.solv_graph.specs.Classes.{numbers}
use Rattle.solv_graph.proofs.Edges.{one_more, times_cons, in_times, times_in}
use Rattle.solv_graph.proofs.Listed.{single_if, filter_more, in_filter, filter_in, filter_same}
use Rattle.solv_graph.proofs.Placed.{in_at, times_take_le}
use Rattle.std.proofs.lemmas.List.Sorted.{searched}
use Rattle.std.specs.Ordering.{nat_cmp}
use Rattle.std.specs.List.Sorted.{IsBinarySearchResult}
use Rattle.solv_trans.specs.Inner.Parting.{IsRising}
use Rattle.solv_list.proofs.Booleans.{or_cases, same_truth}
use Rattle.solv_list.proofs.Lists.{below_true, filter_twice, filter_same as filter_alike}

-- where a member stands
pub place_in : (xs : List ℕ) (p : ℕ) → is_in xs p ≡ true → (i : ℕ) × (i < length xs) × (slice_index xs i ≡ p)
place_in [] p h = absurd (false≢true h)
place_in (x ∷ xs) p h = elim (or_cases (eqb x p) (is_in xs p) h) [
  | inl e ↦ (zero, omega arith, eqb-true x p e)
  | inr k ↦ let r = place_in xs p k in (suc r.0, omega (arith, r.1), r.2)
]

-- what a map has
pub in_map : (f : ℕ → ℕ) (xs : List ℕ) (p : ℕ) → is_in (map f xs) p ≡ true → (k : ℕ) × (is_in xs k ≡ true) × (f k ≡ p)
in_map f [] p h = absurd (false≢true h)
in_map f (x ∷ xs) p h = elim (or_cases (eqb (f x) p) (is_in (map f xs) p) h) [
  | inl e ↦ (x, or_left (eqb x x) (is_in xs x) (eq-eqb x x refl), eqb-true (f x) p e)
  | inr k ↦ let r = in_map f xs p k in (r.0, or_right (eqb x r.0) (is_in xs r.0) r.1, r.2)
]

pub mapped_in : (f : ℕ → ℕ) (xs : List ℕ) (k : ℕ) → is_in xs k ≡ true → is_in (map f xs) (f k) ≡ true
mapped_in f [] k h = absurd (false≢true h)
mapped_in f (x ∷ xs) k h = elim (or_cases (eqb x k) (is_in xs k) h) [
  | inl e ↦ or_left (eqb (f x) (f k)) (is_in (map f xs) (f k)) (eq-eqb (f x) (f k) (ap f (eqb-true x k e)))
  | inr m ↦ or_right (eqb (f x) (f k)) (is_in (map f xs) (f k)) (mapped_in f xs k m)
]

pub in_take : (xs : List ℕ) (i k : ℕ) → is_in (take i xs) k ≡ true → is_in xs k ≡ true
in_take xs i k h = times_in xs k (omega (arith, in_times (take i xs) k h, times_take_le xs i k))

filter_map : (g : ℕ → Bool) (f : ℕ → ℕ) (xs : List ℕ) → filter g (map f xs) ≡ map f (filter (λ x. g (f x)) xs)
filter_map g f [] = refl
filter_map g f (x ∷ xs) = step (g (f x)) (filter_map g f xs)
  where
    step : (b : Bool) → filter g (map f xs) ≡ map f (filter (λ y. g (f y)) xs) → cond b (f x ∷ filter g (map f xs)) (filter g (map f xs)) ≡ map f (cond b (x ∷ filter (λ y. g (f y)) xs) (filter (λ y. g (f y)) xs))
    step true k = ap (λ l. f x ∷ l) k
    step false k = k

-- the elements of a list, by their places
later : (x : ℕ) (xs : List ℕ) (a n : ℕ) → map (slice_index (x ∷ xs)) (range_with_len (suc a) n) ≡ map (slice_index xs) (range_with_len a n)
later x xs a zero = refl
later x xs a (suc n) = ap (λ l. slice_index xs a ∷ l) (ap (λ k. map (slice_index (x ∷ xs)) (range_with_len k n)) next ∙ later x xs (a + 1) n)
  where
    next : suc a + 1 ≡ suc (a + 1)
    next = omega arith

all_places : (xs : List ℕ) → map (slice_index xs) (numbers (length xs)) ≡ xs
all_places [] = refl
all_places (x ∷ xs) = ap (λ l. x ∷ l) (later x xs 0 (length xs) ∙ all_places xs)

-- the numbers that pass a test rise
rising : (part : ℕ → Bool) (n i j : ℕ) → i < j → j < length (filter part (numbers n)) → slice_index (filter part (numbers n)) i < slice_index (filter part (numbers n)) j
rising part zero i j less lt = absurd (omega arith)
rising part (suc n) i j less lt = by (part n) (λ also. rising part n i j less also) refl
  where
    by : (b : Bool) → (j < length (filter part (numbers n)) → slice_index (filter part (numbers n)) i < slice_index (filter part (numbers n)) j) → part n ≡ b → slice_index (filter part (numbers (suc n))) i < slice_index (filter part (numbers (suc n))) j
    by true before e =
        let is : filter part (numbers (suc n)) ≡ filter part (numbers n) ++ n ∷ [] = filter_more part n ∙ ap (λ b. filter part (numbers n) ++ single_if b n) e in
        let size : length (filter part (numbers (suc n))) ≡ length (filter part (numbers n)) + 1 = ap length is ∙ length-append (filter part (numbers n)) (n ∷ []) in
        let inside : i < length (filter part (numbers n)) = omega (arith, less, lt, size) in
        let first : slice_index (filter part (numbers (suc n))) i ≡ slice_index (filter part (numbers n)) i = ap (λ l. slice_index l i) is ∙ get_or-append (filter part (numbers n)) (n ∷ []) 0 i inside in
        elim (eqb_tells j (length (filter part (numbers n)))) [
          | inl s ↦
              let last : slice_index (filter part (numbers (suc n))) j ≡ n = ap (λ l. slice_index l j) is ∙ ap (slice_index (filter part (numbers n) ++ n ∷ [])) s.1 ∙ get_or-append_seam (filter part (numbers n)) n [] 0 in
              let below = (in_filter part n (slice_index (filter part (numbers n)) i) (in_at (filter part (numbers n)) i inside)).0 in
              omega (arith, first, last, below)
          | inr m ↦
              let other = m.1 in
              let also : j < length (filter part (numbers n)) = omega (arith, other, lt, size) in
              let second : slice_index (filter part (numbers (suc n))) j ≡ slice_index (filter part (numbers n)) j = ap (λ l. slice_index l j) is ∙ get_or-append (filter part (numbers n)) (n ∷ []) 0 j also in
              omega (arith, first, second, before also)
        ]
    by false before e =
        let is : filter part (numbers (suc n)) ≡ filter part (numbers n) = filter_more part n ∙ ap (λ b. filter part (numbers n) ++ single_if b n) e ∙ append-nil (filter part (numbers n)) in
        let size : length (filter part (numbers (suc n))) ≡ length (filter part (numbers n)) = ap length is in
        let also : j < length (filter part (numbers n)) = omega (arith, lt, size) in
        omega (arith, ap (λ l. slice_index l i) is, ap (λ l. slice_index l j) is, before also)

pub part_at : (part : ℕ → Bool) (n i : ℕ) → i < length (filter part (numbers n)) → part (slice_index (filter part (numbers n)) i) ≡ true
part_at part n i lt = (in_filter part n (slice_index (filter part (numbers n)) i) (in_at (filter part (numbers n)) i lt)).1

-- the parts are the numbers below one that pass a test, ascending
pub record ArePlaces (parts : List ℕ) (n : ℕ) (part : ℕ → Bool) : Type 0 where
  pub is : parts ≡ filter part (numbers n)
  pub each : (i : ℕ) → i < length parts → part (slice_index parts i) ≡ true
  pub rising : IsRising parts
  pub place : (p : ℕ) → part p ≡ true → (i : ℕ) × (i < length parts) × (slice_index parts i ≡ p)

pub are_places : (n : ℕ) (part : ℕ → Bool) → ((p : ℕ) → part p ≡ true → p < n) → ArePlaces (filter part (numbers n)) n part
are_places n part within = record {
  is = refl;
  each = part_at part n;
  rising = rising part n;
  place = λ p h. place_in (filter part (numbers n)) p (filter_in part n p (within p h) h);
}

module _ (parts : List ℕ) (rises : IsRising parts) where
  -- two places of one part are one
  pub one_place : (i j : ℕ) → i < length parts → j < length parts → slice_index parts i ≡ slice_index parts j → i ≡ j
  one_place i j a b e = elim (cases_lt i j) [
    | inl less ↦ absurd (omega (arith, rises i j less b, e))
    | inr most ↦ elim (cases_lt j i) [
      | inl less ↦ absurd (omega (arith, rises j i less a, e))
      | inr also ↦ omega (arith, most, also)
    ]
  ]

  pub place_equal : (i j : ℕ) → i < length parts → j < length parts → eqb (slice_index parts i) (slice_index parts j) ≡ eqb i j
  place_equal i j a b = same_truth (eqb (slice_index parts i) (slice_index parts j)) (eqb i j)
      (λ e. eq-eqb i j (one_place i j a b (eqb-true (slice_index parts i) (slice_index parts j) e))) (λ e. eq-eqb (slice_index parts i) (slice_index parts j) (ap (slice_index parts) (eqb-true i j e)))

  pub place_less : (i j : ℕ) → i < length parts → j < length parts → nat_lt (slice_index parts i) (slice_index parts j) ≡ nat_lt i j
  place_less i j a b = same_truth (nat_lt (slice_index parts i) (slice_index parts j)) (nat_lt i j) to from
    where
      to : nat_lt (slice_index parts i) (slice_index parts j) ≡ true → nat_lt i j ≡ true
      to h = elim (cases_lt i j) [
        | inl less ↦ below_true i j less
        | inr most ↦ elim (cases_lt j i) [
          | inl less ↦ absurd (omega (arith, rises j i less a, ltb-true (slice_index parts i) (slice_index parts j) h))
          | inr also ↦
              let same : i ≡ j = omega (arith, most, also) in
              absurd (omega (arith, ap (slice_index parts) same, ltb-true (slice_index parts i) (slice_index parts j) h))
        ]
      ]

      from : nat_lt i j ≡ true → nat_lt (slice_index parts i) (slice_index parts j) ≡ true
      from h = below_true (slice_index parts i) (slice_index parts j) (rises i j (ltb-true i j h) b)

module _ (parts : List ℕ) (n : ℕ) (part : ℕ → Bool) (are : ArePlaces parts n part) where
  module _ (xs : List ℕ) (inside : (k : ℕ) → is_in xs k ≡ true → k < length parts) where
    -- what is in a list of places is in the list of their parts
    pub in_same : (i : ℕ) → i < length parts → is_in (map (slice_index parts) xs) (slice_index parts i) ≡ is_in xs i
    in_same i lt = same_truth (is_in (map (slice_index parts) xs) (slice_index parts i)) (is_in xs i)
        (λ h. let r = in_map (slice_index parts) xs (slice_index parts i) h in ap (is_in xs) (sym (one_place parts are.rising r.0 i (inside r.0 r.1) lt r.2)) ∙ r.1) (mapped_in (slice_index parts) xs i)

    -- an ascending list of places is an ascending list of parts
    pub ascending : xs ≡ filter (is_in xs) (numbers (length parts)) → map (slice_index parts) xs ≡ filter (is_in (map (slice_index parts) xs)) (numbers n)
    ascending up =
        ap (map (slice_index parts)) up
        ∙ ap (map (slice_index parts)) (filter_same (is_in xs) (λ i. is_in (map (slice_index parts) xs) (slice_index parts i)) (length parts) (λ i lt. sym (in_same i lt)))
        ∙ sym (filter_map (is_in (map (slice_index parts) xs)) (slice_index parts) (numbers (length parts)))
        ∙ ap (filter (is_in (map (slice_index parts) xs))) (all_places parts ∙ are.is)
        ∙ filter_twice part (is_in (map (slice_index parts) xs)) (numbers n)
        ∙ filter_alike (λ q. is_in (map (slice_index parts) xs) q && part q) (is_in (map (slice_index parts) xs)) parts_only (numbers n)
      where
        parts_only : (q : ℕ) → (is_in (map (slice_index parts) xs) q && part q) ≡ is_in (map (slice_index parts) xs) q
        parts_only q = same_truth (is_in (map (slice_index parts) xs) q && part q) (is_in (map (slice_index parts) xs) q)
            (λ h. (and_parts (is_in (map (slice_index parts) xs) q) (part q) h).0)
            (λ h. let r = in_map (slice_index parts) xs q h in and_from (is_in (map (slice_index parts) xs) q) (part q) h (ap part (sym r.2) ∙ are.each r.0 (inside r.0 r.1)))

  pub times_same : (xs : List ℕ) → ((k : ℕ) → is_in xs k ≡ true → k < length parts) → (i : ℕ) → i < length parts → times (map (slice_index parts) xs) (slice_index parts i) ≡ times xs i
  times_same [] inside i lt = refl
  times_same (x ∷ xs) inside i lt =
      let first : eqb (slice_index parts x) (slice_index parts i) ≡ eqb x i = place_equal parts are.rising x i (inside x (or_left (eqb x x) (is_in xs x) (eq-eqb x x refl))) lt in
      times_cons (slice_index parts x) (map (slice_index parts) xs) (slice_index parts i)
      ∙ ap (λ b. one_more b + times (map (slice_index parts) xs) (slice_index parts i)) first
      ∙ ap (λ m. one_more (eqb x i) + m) (times_same xs (λ k h. inside k (or_right (eqb x k) (is_in xs k) h)) i lt)
      ∙ sym (times_cons x xs i)

-- a search does not miss a member
pub never_missed : (parts : List ℕ) (pack place : ℕ) → IsRising parts → is_in parts pack ≡ true → IsBinarySearchResult (λ y. nat_cmp y pack) parts (Err place) → ⊥
never_missed parts pack place rises h missed =
    let i = place_in parts pack h in
    let r : (place ≤ length parts) × ((k : ℕ) → k < place → slice_index parts k < pack) × ((k : ℕ) → place ≤ k → k < length parts → pack < slice_index parts k) = searched parts pack (Err place) missed up in
    elim (cases_lt i.0 place) [
      | inl less ↦ omega (arith, r.1 i.0 less, i.2)
      | inr most ↦ omega (arith, r.2 i.0 most i.1, i.2)
    ]
  where
    up : (i j : ℕ) → i ≤ j → j < length parts → slice_index parts i ≤ slice_index parts j
    up i j le lt = elim (cases_lt i j) [
      | inl less ↦ omega (arith, rises i j less lt)
      | inr most ↦ let same : i ≡ j = omega (arith, le, most) in omega (arith, ap (slice_index parts) same)
    ]
