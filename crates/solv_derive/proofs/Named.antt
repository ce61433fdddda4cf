-- The leaves of a log: what its hints name, ascending, each once.
use Rattle.std.proofs.Common.{◌≡◌, ℕ, zero, suc, ◌<◌, Bool, true, false, ◌||◌, List, [], ◌∷◌, length, get_or, eqb, refl, sym, ap, ◌∙◌, subst, arith, add-one, ◌⊎◌, inl, inr, eq-eqb}
use Rattle.std.specs.Prelude.{fold}
use Rattle.std.specs.List.{Contains, dedup}
use Rattle.std.specs.List.Retain.{IsFiltered, DiffersFromLast}
use Rattle.std.specs.List.Sorted.{IsStrictlyIncreasing, IsSorted, IsPermutation}
use Rattle.std.specs.Ordering.{nat_cmp, match_ordering}
use Rattle.std.specs.Cmp.{nat_cmp_is}
use Rattle.std.specs.BTreeSet.{insert_key}
use Rattle.std.specs.declared.cmp.Ordering.{Ordering}
use Rattle.std.specs.declared.cmp.Ordering.TheVariants.{Less, Equal, Greater}
use Rattle.std.proofs.lemmas.Bool.{or_cases, cases_Bool, cases_order, false≢true, eqb-true}
use Rattle.std.proofs.lemmas.List.Filters.{dedup_is}
use Rattle.std.proofs.lemmas.List.Kept.{AllPairs-from_increasing, Contains-dedup_nat, Contains-from_dedup}
use Rattle.std.proofs.lemmas.List.Sorted.{Contains-permutation, IsPermutation-sym}
use Rattle.std.proofs.lemmas.Map.Keys.{IsStrictlyIncreasing-dedup}
use mathlib.Core.Path.{fun_ext}
use Rattle.solv_derive.specs.Leaves.{is_one_of, leaves, named_rules}
use Rattle.solv_derive.specs.Laws.{LeavesAreNamed}
use Rattle.solv_list.proofs.Booleans.{or_once_more, or_second_first, or_turned, with_or_false}

-- each number of the list is above this one
abbrev pub AllAbove : ℕ → List ℕ → Type 0
AllAbove n [] = Unit {0}
AllAbove n (x ∷ xs) = (n < x) × AllAbove n xs

-- each number is above those before it
abbrev pub Rises : List ℕ → Type 0
Rises [] = Unit {0}
Rises (x ∷ xs) = AllAbove x xs × Rises xs

member_above : (n x : ℕ) (xs : List ℕ) → AllAbove n xs → is_one_of xs x ≡ true → n < x
member_above n x [] above h = absurd (false≢true h)
member_above n x (y ∷ ys) above h = elim (or_cases (eqb x y) (is_one_of ys x) h) [
  | inl e ↦ let f : x ≡ y = eqb-true x y e in let g : n < y = above.0 in omega arith
  | inr r ↦ member_above n x ys above.1 r
]

above_less : (m n : ℕ) (xs : List ℕ) → m < n → AllAbove n xs → AllAbove m xs
above_less m n [] h above = tt
above_less m n (x ∷ xs) h above = let g : n < x = above.0 in (omega arith, above_less m n xs h above.1)

insert_above : (n k : ℕ) (xs : List ℕ) → AllAbove n xs → n < k → AllAbove n (insert_key nat_cmp xs k)
insert_above n k [] above h = (h, tt)
insert_above n k (x ∷ xs) above h = by (nat_cmp k x) (insert_above n k xs above.1 h)
  where
    by : (o : Ordering) → AllAbove n (insert_key nat_cmp xs k) → AllAbove n (match_ordering o (k ∷ x ∷ xs) (x ∷ xs) (x ∷ insert_key nat_cmp xs k))
    by Less rest = (h, above)
    by Equal rest = above
    by Greater rest = (above.0, rest)

insert_rises : (k : ℕ) (xs : List ℕ) → Rises xs → Rises (insert_key nat_cmp xs k)
insert_rises k [] r = (tt, tt)
insert_rises k (x ∷ xs) r =
    let P : Ordering → Type 0 = λ o. Rises (match_ordering o (k ∷ x ∷ xs) (x ∷ xs) (x ∷ insert_key nat_cmp xs k)) in
    elim (cases_order k x) [
      | inl e ↦ subst P (nat_cmp_is k x Equal e) r
      | inr d ↦ elim d [
        | inl l ↦ subst P (nat_cmp_is k x Less l) ((l, above_less k x xs l r.0), r)
        | inr g ↦ subst P (nat_cmp_is k x Greater g) (insert_above x k xs r.0 g, insert_rises k xs r.1)
      ]
    ]

insert_has : (k x : ℕ) (xs : List ℕ) → is_one_of (insert_key nat_cmp xs k) x ≡ (eqb x k || is_one_of xs x)
insert_has k x [] = refl
insert_has k x (y ∷ ys) =
    let P : Ordering → Type 0 = λ o. is_one_of (match_ordering o (k ∷ y ∷ ys) (y ∷ ys) (y ∷ insert_key nat_cmp ys k)) x ≡ (eqb x k || is_one_of (y ∷ ys) x) in
    elim (cases_order k y) [
      | inl e ↦ subst P (nat_cmp_is k y Equal e) (or_once_more (eqb x y) (is_one_of ys x) ∙ ap (λ v. eqb x v || is_one_of (y ∷ ys) x) (sym e))
      | inr d ↦ elim d [
        | inl l ↦ subst P (nat_cmp_is k y Less l) refl
        | inr g ↦ subst P (nat_cmp_is k y Greater g) (ap (λ b. eqb x y || b) (insert_has k x ys) ∙ or_second_first (eqb x y) (eqb x k) (is_one_of ys x))
      ]
    ]

fold_rises : (xs start : List ℕ) → Rises start → Rises (fold (insert_key nat_cmp) start xs)
fold_rises [] start r = r
fold_rises (x ∷ xs) start r = fold_rises xs (insert_key nat_cmp start x) (insert_rises x start r)

fold_has : (x : ℕ) (xs start : List ℕ) → is_one_of (fold (insert_key nat_cmp) start xs) x ≡ (is_one_of start x || is_one_of xs x)
fold_has x [] start = with_or_false (is_one_of start x)
fold_has x (n ∷ ns) start =
    fold_has x ns (insert_key nat_cmp start n)
    ∙ ap (λ b. b || is_one_of ns x) (insert_has n x start)
    ∙ or_turned (eqb x n) (is_one_of start x) (is_one_of ns x)

rises_next : (xs : List ℕ) → Rises xs → (k : ℕ) → suc k < length xs → get_or xs k 0 < get_or xs (suc k) 0
rises_next [] r k h = absurd (omega arith)
rises_next (x ∷ []) r k h = absurd (omega arith)
rises_next (x ∷ y ∷ ys) r zero h = r.0.0
rises_next (x ∷ y ∷ ys) r (suc k) h = rises_next (y ∷ ys) r.1 k (omega arith)

pub leaves_are_named : LeavesAreNamed
leaves_are_named steps =
    let rises : Rises (leaves steps) = fold_rises (named_rules steps) [] tt in
    (λ k h. rw add-one (rises_next (leaves steps) rises k (omega arith)), λ rule. fold_has rule (named_rules steps) [])

-- a list that rises is known by its members
self : (x : ℕ) → eqb x x ≡ true
self x = eq-eqb x x refl

here : (x : ℕ) (xs : List ℕ) → is_one_of (x ∷ xs) x ≡ true
here x xs = ap (λ b. b || is_one_of xs x) (self x)

not_below : (x : ℕ) (xs : List ℕ) → AllAbove x xs → is_one_of xs x ≡ false
not_below x xs above = by (is_one_of xs x) refl
  where
    by : (b : Bool) → is_one_of xs x ≡ b → is_one_of xs x ≡ false
    by true e = absurd (omega (arith, member_above x x xs above e))
    by false e = e

first_or_later : (x y : ℕ) (ys : List ℕ) → AllAbove y ys → is_one_of (y ∷ ys) x ≡ true → (x ≡ y) ⊎ (y < x)
first_or_later x y ys above h = elim (or_cases (eqb x y) (is_one_of ys x) h) [
  | inl e ↦ inl (eqb-true x y e)
  | inr r ↦ inr (member_above y x ys above r)
]

rest_same : (x z : ℕ) (xs ys : List ℕ) → AllAbove x xs → AllAbove x ys → is_one_of (x ∷ xs) z ≡ is_one_of (x ∷ ys) z → is_one_of xs z ≡ is_one_of ys z
rest_same x z xs ys above above2 h = elim (cases_Bool (eqb z x)) [
  | inl e ↦
      let f : z ≡ x = eqb-true z x e in
      ap (is_one_of xs) f ∙ not_below x xs above ∙ sym (not_below x ys above2) ∙ sym (ap (is_one_of ys) f)
  | inr n ↦ sym (ap (λ b. b || is_one_of xs z) n) ∙ h ∙ ap (λ b. b || is_one_of ys z) n
]

pub same_rising : (xs ys : List ℕ) → Rises xs → Rises ys → ((x : ℕ) → is_one_of xs x ≡ is_one_of ys x) → xs ≡ ys
same_rising [] [] r s h = refl
same_rising [] (y ∷ ys) r s h = absurd (false≢true (h y ∙ here y ys))
same_rising (x ∷ xs) [] r s h = absurd (false≢true (sym (h x) ∙ here x xs))
same_rising (x ∷ xs) (y ∷ ys) r s h =
    let e : x ≡ y = heads (first_or_later x y ys s.0 (sym (h x) ∙ here x xs)) (first_or_later y x xs r.0 (h y ∙ here y ys)) in
    let A : ℕ → Type 0 = λ v. AllAbove v ys in
    let above : AllAbove x ys = subst A (sym e) s.0 in
    let rest : xs ≡ ys = same_rising xs ys r.1 s.1 (λ z. rest_same x z xs ys r.0 above (h z ∙ ap (λ v. is_one_of (v ∷ ys) z) (sym e))) in
    ap (λ v. v ∷ xs) e ∙ ap (λ v. y ∷ v) rest
  where
    heads : ((x ≡ y) ⊎ (y < x)) → ((y ≡ x) ⊎ (x < y)) → x ≡ y
    heads (inl e) b = e
    heads (inr l) (inl e) = sym e
    heads (inr l) (inr m) = absurd (omega arith)

-- numbers that increase strictly rise
above_from : (n : ℕ) (xs : List ℕ) → ((k : ℕ) → k < length xs → n < get_or xs k 0) → AllAbove n xs
above_from n [] h = tt
above_from n (x ∷ xs) h = (h 0 (omega arith), above_from n xs (λ k l. h (suc k) (omega arith)))

rises_from : (xs : List ℕ) → ((i j : ℕ) → i < j → j < length xs → get_or xs i 0 < get_or xs j 0) → Rises xs
rises_from [] h = tt
rises_from (x ∷ xs) h = (above_from x xs (λ k l. h 0 (suc k) (omega arith) (omega arith)), rises_from xs (λ i j l m. h (suc i) (suc j) (omega arith) (omega arith)))

pub increasing_rises : (xs : List ℕ) → IsStrictlyIncreasing xs → Rises xs
increasing_rises xs h = rises_from xs (λ i j l m. AllPairs-from_increasing xs h i j 0 l m)

-- members by place and by test
pub has_place : (xs : List ℕ) (x : ℕ) → Contains xs x → is_one_of xs x ≡ true
has_place [] x c = absurd (omega (arith, c.1))
has_place (y ∷ ys) x c = by c.0 c.1 c.2 (λ k l e. has_place ys x (k, l, e))
  where
    or_true : (a : Bool) → (a || true) ≡ true
    or_true true = refl
    or_true false = refl

    by : (k : ℕ) → k < length (y ∷ ys) → get_or (y ∷ ys) k x ≡ x → ((j : ℕ) → j < length ys → get_or ys j x ≡ x → is_one_of ys x ≡ true) → is_one_of (y ∷ ys) x ≡ true
    by zero h e later = ap (λ b. b || is_one_of ys x) (eq-eqb x y (sym e))
    by (suc k) h e later = ap (λ b. eqb x y || b) (later k (omega arith) e) ∙ or_true (eqb x y)

pub place_of_member : (xs : List ℕ) (x : ℕ) → is_one_of xs x ≡ true → Contains xs x
place_of_member [] x h = absurd (false≢true h)
place_of_member (y ∷ ys) x h = elim (or_cases (eqb x y) (is_one_of ys x) h) [
  | inl e ↦ (0, omega arith, sym (eqb-true x y e))
  | inr r ↦ let p = place_of_member ys x r in (suc p.0, omega (arith, p.1), p.2)
]

pub same_members : (xs ys : List ℕ) → ((x : ℕ) → Contains xs x → Contains ys x) → ((x : ℕ) → Contains ys x → Contains xs x) → (x : ℕ) → is_one_of xs x ≡ is_one_of ys x
same_members xs ys f g x = by (is_one_of xs x) (is_one_of ys x) refl refl
  where
    by : (a b : Bool) → is_one_of xs x ≡ a → is_one_of ys x ≡ b → is_one_of xs x ≡ is_one_of ys x
    by true true p q = p ∙ sym q
    by false false p q = p ∙ sym q
    by true false p q = absurd (false≢true (sym q ∙ has_place ys x (f x (place_of_member xs x p))))
    by false true p q = absurd (false≢true (sym p ∙ has_place xs x (g x (place_of_member ys x q))))

-- what rises and has exactly the named rules is the leaves
abbrev insert_all : List ℕ → List ℕ
insert_all xs = fold (insert_key nat_cmp) [] xs

pub rising_is_inserted : (xs ns : List ℕ) → Rises xs → ((x : ℕ) → is_one_of xs x ≡ is_one_of ns x) → xs ≡ fold (insert_key nat_cmp) [] ns
rising_is_inserted xs ns r h = same_rising xs (insert_all ns) r (fold_rises ns [] tt) (λ x. h x ∙ sym (fold_has x ns []))

-- a list that is sorted, and then rid of what stands twice
pub sorted_is_inserted : (same : ℕ → ℕ → Bool) (order : ℕ → ℕ → Ordering) (ns sorted out : List ℕ) → ((x y : ℕ) → same x y ≡ eqb x y) → ((x y : ℕ) → order x y ≡ nat_cmp x y)
    → IsPermutation ns sorted → IsSorted order sorted → IsFiltered (DiffersFromLast same) [] sorted out → out ≡ fold (insert_key nat_cmp) [] ns
sorted_is_inserted same order ns sorted out s o moved in_order kept =
    let f : same ≡ eqb = fun_ext (λ x. fun_ext (λ y. s x y)) in
    let g : order ≡ nat_cmp = fun_ext (λ x. fun_ext (λ y. o x y)) in
    let P : (ℕ → ℕ → Ordering) → Type 0 = λ r. IsSorted r sorted in
    let is : out ≡ dedup eqb sorted = dedup_is same sorted out kept ∙ ap (λ e. dedup e sorted) f in
    let rises : Rises (dedup eqb sorted) = increasing_rises (dedup eqb sorted) (IsStrictlyIncreasing-dedup sorted (subst P g in_order)) in
    let members : (x : ℕ) → is_one_of (dedup eqb sorted) x ≡ is_one_of ns x = same_members (dedup eqb sorted) ns
    (λ x h. Contains-permutation sorted ns x (IsPermutation-sym ns sorted moved) (Contains-from_dedup eqb sorted x h))
    (λ x h. Contains-dedup_nat sorted x (Contains-permutation ns sorted x moved h)) in
    is ∙ rising_is_inserted (dedup eqb sorted) ns rises members
