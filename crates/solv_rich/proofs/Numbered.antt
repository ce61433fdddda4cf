-- The clause of a number among joined and crossed clauses.
use Rattle.std.proofs.Common.{◌≡◌, ◌*◌, ◌-◌, ◌/◌, ◌%◌, ◌<◌, ◌≤◌, ℕ, zero, suc, Bool, true, false, List, [], ◌∷◌, ◌++◌, length, map, Option, Some, None, option_map, refl, sym, ap, ◌∙◌, arith, length-append, add-one}
use Rattle.std.specs.Prelude.{slice_get, nat_lt}
use Rattle.std.proofs.lemmas.Bool.{ltb-true}
use Rattle.std.proofs.lemmas.Bool.Decides.{nat_tests}
use Rattle.std.proofs.lemmas.Option.{slice_get-map}
use Rattle.std.proofs.lemmas.List.{length-map}
use Rattle.std.proofs.Math.Nat.{mod-eq-sub-mod, div-eq_of_lt, mod-eq_of_lt, div-eq-sub-div, mul-le-mul, div-lt_iff_lt-mul, mod-lt}
use Rattle.solv_pool.specs.Prelude.{Clause, times}
use Rattle.solv_rich.specs.Counts.{saturated}
use Rattle.solv_rich.specs.Inner.Expansions.{CrossesAt}
use Rattle.solv_rich.proofs.Lengths.{length-times}

pub get_front : (xs ys : List Clause) (k : ℕ) → k < length xs → slice_get (xs ++ ys) k ≡ slice_get xs k
get_front [] ys k h = absurd (omega (arith, h))
get_front (x ∷ xs) ys zero h = refl
get_front (x ∷ xs) ys (suc k) h = get_front xs ys k (omega (arith, h))

pub get_back : (xs ys : List Clause) (k : ℕ) → length xs ≤ k → slice_get (xs ++ ys) k ≡ slice_get ys (k - length xs)
get_back [] ys k h = ap (slice_get ys) (omega arith)
get_back (x ∷ xs) ys zero h = absurd (omega (arith, h))
get_back (x ∷ xs) ys (suc k) h = get_back xs ys k (omega (arith, h)) ∙ ap (slice_get ys) (omega arith)

-- the literals of one clause and then of another
abbrev pub both_of : Option Clause → Option Clause → Option Clause
both_of (Some c) (Some d) = Some (c ++ d)
both_of (Some c) None = None
both_of None d = None

mapped_both : (c : Clause) (o : Option Clause) → option_map (λ d. c ++ d) o ≡ both_of (Some c) o
mapped_both c None = refl
mapped_both c (Some d) = refl

-- a clause of a product
pub get_times : (xs ys : List Clause) (k : ℕ) → 0 < length ys → slice_get (times xs ys) k ≡ both_of (slice_get xs (k / length ys)) (slice_get ys (k % length ys))
get_times [] ys k h = refl
get_times (c ∷ xs) ys k h = step (nat_lt k (length ys)) refl (get_times xs ys (k - length ys) h)
  where
    many : length (map (λ d. c ++ d) ys) ≡ length ys
    many = length-map ys (λ (d : Clause). c ++ d)

    front : k < length ys → slice_get (map (λ d. c ++ d) ys ++ times xs ys) k ≡ both_of (slice_get (c ∷ xs) (k / length ys)) (slice_get ys (k % length ys))
    front low =
        get_front (map (λ d. c ++ d) ys) (times xs ys) k (omega (arith, low, many))
        ∙ slice_get-map (λ d. c ++ d) ys k ∙ mapped_both c (slice_get ys k)
        ∙ sym (ap (λ q. both_of (slice_get (c ∷ xs) q) (slice_get ys (k % length ys))) (div-eq_of_lt low) ∙ ap (λ r. both_of (Some c) (slice_get ys r)) (mod-eq_of_lt low))

    back : length ys ≤ k → slice_get (times xs ys) (k - length ys) ≡ both_of (slice_get xs ((k - length ys) / length ys)) (slice_get ys ((k - length ys) % length ys))
        → slice_get (map (λ d. c ++ d) ys ++ times xs ys) k ≡ both_of (slice_get (c ∷ xs) (k / length ys)) (slice_get ys (k % length ys))
    back high ih =
        get_back (map (λ d. c ++ d) ys) (times xs ys) k (omega (arith, high, many))
        ∙ ap (λ n. slice_get (times xs ys) (k - n)) many ∙ ih
        ∙ sym (ap (λ q. both_of (slice_get (c ∷ xs) q) (slice_get ys (k % length ys))) (div-eq-sub-div h high ∙ add-one ((k - length ys) / length ys)) ∙ ap (λ r. both_of (slice_get xs ((k - length ys) / length ys)) (slice_get ys r)) (mod-eq-sub-mod high))

    step : (b : Bool) → nat_lt k (length ys) ≡ b → slice_get (times xs ys) (k - length ys) ≡ both_of (slice_get xs ((k - length ys) / length ys)) (slice_get ys ((k - length ys) % length ys))
        → slice_get (map (λ d. c ++ d) ys ++ times xs ys) k ≡ both_of (slice_get (c ∷ xs) (k / length ys)) (slice_get ys (k % length ys))
    step true e ih = front (ltb-true k (length ys) e)
    step false e ih = back (not_below k (length ys) e) ih
      where
        not_below : (k n : ℕ) → nat_lt k n ≡ false → n ≤ k
        not_below k n e = grind (arith, nat_tests)

below_cut : (k n : ℕ) → k < saturated n → k < n
below_cut k n h = grind (arith, nat_tests, h)

pub below_count : (k c n : ℕ) → c ≡ saturated n → k < c → k < n
below_count k c n e h = below_cut k n (rw e at h)

pub uncut : (c n : ℕ) → c ≡ saturated n → n ≤ 65536 → c ≡ n
uncut c n e h = e ∙ small n h
  where
    small : (n : ℕ) → n ≤ 65536 → saturated n ≡ n
    small n h = grind (arith, nat_tests, h)

-- a clause of the first or of the second of two lists that are joined
pub joined_front : (xs ys : List Clause) (count k : ℕ) (c : Clause) → count ≡ saturated (length xs) → k < count → slice_get (xs ++ ys) k ≡ Some c → slice_get xs k ≡ Some c
joined_front xs ys count k c e h at = sym (get_front xs ys k (below_cut k (length xs) (rw e at h))) ∙ at

pub joined_few : (xs ys : List Clause) → length (xs ++ ys) ≤ 65536 → (length xs ≤ 65536) × (length ys ≤ 65536)
joined_few xs ys h = let e = length-append xs ys in (omega (arith, e, h), omega (arith, e, h))

pub joined_back : (xs ys : List Clause) (count k : ℕ) (c : Clause) → count ≡ saturated (length xs) → length (xs ++ ys) ≤ 65536 → count ≤ k → slice_get (xs ++ ys) k ≡ Some c → slice_get ys (k - count) ≡ Some c
joined_back xs ys count k c e few h at =
    let own : count ≡ length xs = uncut count (length xs) e (joined_few xs ys few).0 in
    let behind : length xs ≤ k = rw own at h in
    ap (λ n. slice_get ys (k - n)) own ∙ sym (get_back xs ys k behind) ∙ at

-- the clauses of the first and of the second that make a clause of both crossed
pub record AreCrossed (xs ys : List Clause) (count k : ℕ) : Type 0 where
  pub some : 0 < count
  pub few_first : length xs ≤ 65536
  pub few_second : length ys ≤ 65536
  pub first_there : k / count < length xs
  pub second_there : k % count < length ys
  pub count_is : count ≡ length ys

some_factor : (m n k : ℕ) → k < m * n → (0 < m) × (0 < n)
some_factor zero n k h = absurd (let z : 0 * n ≡ 0 = grind arith in omega (arith, z, h))
some_factor (suc m) zero k h = absurd (let z : suc m * 0 ≡ 0 = grind arith in omega (arith, z, h))
some_factor (suc m) (suc n) k h = (omega arith, omega arith)

factor_within : (m n : ℕ) → 0 < n → m ≤ m * n
factor_within m n h = let p : m * 1 ≤ m * n = mul-le-mul le_refl h in let q : m * 1 ≡ m = grind arith in omega (arith, p, q)
  where
    le_refl : m ≤ m
    le_refl = omega arith

other_within : (m n : ℕ) → 0 < m → n ≤ m * n
other_within m n h = let p : 1 * n ≤ m * n = mul-le-mul h le_refl in let q : 1 * n ≡ n = grind arith in omega (arith, p, q)
  where
    le_refl : n ≤ n
    le_refl = omega arith

pub crossed : (xs ys : List Clause) (count k : ℕ) → count ≡ saturated (length ys) → length (times xs ys) ≤ 65536 → k < length (times xs ys) → AreCrossed xs ys count k
crossed xs ys count k e few there =
    let many : length (times xs ys) ≡ length xs * length ys = length-times xs ys in
    let low : k < length xs * length ys = rw many at there in
    let within : length xs * length ys ≤ 65536 = rw many at few in
    let both = some_factor (length xs) (length ys) k low in
    let first_few = factor_within (length xs) (length ys) both.1 in
    let second_few = other_within (length xs) (length ys) both.0 in
    let second_within : length ys ≤ 65536 = omega (arith, second_few, within) in
    let own : count ≡ length ys = uncut count (length ys) e second_within in
    record {
      some = rw own both.1;
      few_first = omega (arith, first_few, within);
      few_second = second_within;
      first_there = rw own ((div-lt_iff_lt-mul both.1).1 low);
      second_there = rw own (mod-lt k both.1);
      count_is = own;
    }

-- a clause of the first before one of the second is that of both
pub crosses : (xs ys : List Clause) (count k : ℕ) → AreCrossed xs ys count k → CrossesAt xs ys k (k / count) (k % count)
crosses xs ys count k is = record {
  few_first = is.few_first;
  few_second = is.few_second;
  first_there = is.first_there;
  second_there = is.second_there;
  joined = λ c d first second.
      get_times xs ys k (rw is.count_is at is.some)
      ∙ sym (ap (λ n. both_of (slice_get xs (k / n)) (slice_get ys (k % n))) is.count_is)
      ∙ ap (λ o. both_of o (slice_get ys (k % count))) first ∙ ap (both_of (Some c)) second;
}

-- there is a clause of each number below their length
pub there_is : (xs : List Clause) (k : ℕ) → k < length xs → (c : Clause) × (slice_get xs k ≡ Some c)
there_is [] k h = absurd (omega (arith, h))
there_is (x ∷ xs) zero h = (x, refl)
there_is (x ∷ xs) (suc k) h = there_is xs k (omega (arith, h))
