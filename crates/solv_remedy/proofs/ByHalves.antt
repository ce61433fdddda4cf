-- Conflicts in the order of their first rules, found by halves.
use Rattle.std.proofs.Common.{◌≡◌, ◌<◌, ◌≤◌, ℕ, zero, suc, Bool, true, false, ◌||◌, List, [], ◌∷◌, ◌++◌, cond, map, refl, sym, ap, ◌∙◌, arith, length, length-append, get_or}
use Rattle.std.specs.Prelude.{◌==◌, nat_lt, nat_le}
use Rattle.std.specs.List.{list_all}
use Rattle.std.proofs.lemmas.Bool.{and_parts, and_from, false≢true, eqb-true, ltb-true, lt-ltb, le-leb, leb-true}
use Rattle.solv_pool.specs.Prelude.{is_among}
use Rattle.solv_rules.specs.Books.{rises}
use Rattle.solv_remedy.specs.Remedies.{firsts}
use Rattle.solv_remedy.specs.Inner.Conflicts.{listed_of, first_of, has_rule, is_single, place_in, first_rules, AreApart}
use Rattle.solv_remedy.specs.declared.smallest.Conflict.{Conflict}
use Rattle.solv_list.proofs.Booleans.{with_or_false}
use Rattle.solv_remedy.proofs.Rising.{low_out}

-- where each has a rule, each has a first one
pub firsts_are : (ds : List Conflict) → list_all has_rule ds ≡ true → firsts (map (λ (d : Conflict). d.rules) ds) ≡ first_rules ds
firsts_are [] h = refl
firsts_are (d ∷ ds) h = by d.rules refl (firsts_are ds (and_parts (has_rule d) (list_all has_rule ds) h).1)
  where
    by : (l : List ℕ) → d.rules ≡ l → firsts (map (λ (d : Conflict). d.rules) ds) ≡ first_rules ds → firsts (d.rules ∷ map (λ (d : Conflict). d.rules) ds) ≡ first_of d.rules ∷ first_rules ds
    by [] e rest = absurd (false≢true (sym (ap (λ v. nat_lt 0 (length v)) e) ∙ (and_parts (has_rule d) (list_all has_rule ds) h).0))
    by (k ∷ ks) e rest = ap (λ v. firsts (v ∷ map (λ (d : Conflict). d.rules) ds)) e ∙ ap (λ v. k ∷ v) rest ∙ ap (λ v. first_of v ∷ first_rules ds) (sym e)

-- where each has one rule alone, the first ones are all
pub listed_are : (ds : List Conflict) → list_all is_single ds ≡ true → listed_of ds ≡ first_rules ds
listed_are [] h = refl
listed_are (d ∷ ds) h = by d.rules refl (listed_are ds (and_parts (is_single d) (list_all is_single ds) h).1)
  where
    one : (length d.rules == 1) ≡ true
    one = (and_parts (is_single d) (list_all is_single ds) h).0

    by : (l : List ℕ) → d.rules ≡ l → listed_of ds ≡ first_rules ds → d.rules ++ listed_of ds ≡ first_of d.rules ∷ first_rules ds
    by [] e rest = absurd (false≢true (sym (ap (λ v. length v == 1) e) ∙ one))
    by (k ∷ q ∷ ks) e rest = absurd (let few : length d.rules ≡ 1 = eqb-true (length d.rules) 1 one in let long : length d.rules ≡ suc (suc (length ks)) = ap length e in omega (arith, few, long))
    by (k ∷ []) e rest = ap (λ v. v ++ listed_of ds) e ∙ ap (λ v. k ∷ v) rest ∙ ap (λ v. first_of v ∷ first_rules ds) (sym e)

-- one that is higher stands no earlier than the place
pub higher_at : (k : ℕ) (ds : List Conflict) (i : ℕ) (d : Conflict) → i < length ds → k < first_of (get_or ds i d).rules → place_in k ds ≤ i
higher_at k [] i d w h = absurd (omega (arith, w))
higher_at k (y ∷ ds) zero d w h = by (nat_lt k (first_of y.rules)) (lt-ltb k (first_of y.rules) h)
  where
    by : (b : Bool) → b ≡ true → cond b 0 (suc (place_in k ds)) ≤ zero
    by true t = omega arith
    by false t = absurd (false≢true t)
higher_at k (y ∷ ds) (suc i) d w h = by (nat_lt k (first_of y.rules)) (higher_at k ds i d (omega (arith, w)) h)
  where
    by : (b : Bool) → place_in k ds ≤ i → cond b 0 (suc (place_in k ds)) ≤ suc i
    by true g = omega arith
    by false g = omega (arith, g)

at_least : (n : ℕ) (ds : List Conflict) (i : ℕ) (d : Conflict) → rises n (first_rules ds) ≡ true → i < length ds → n ≤ first_of (get_or ds i d).rules
at_least n [] i d h w = absurd (omega (arith, w))
at_least n (y ∷ ds) zero d h w = leb-true n (first_of y.rules) (and_parts (nat_le n (first_of y.rules)) (rises (suc (first_of y.rules)) (first_rules ds)) h).0
at_least n (y ∷ ds) (suc i) d h w =
    let p = and_parts (nat_le n (first_of y.rules)) (rises (suc (first_of y.rules)) (first_rules ds)) h in
    let low = leb-true n (first_of y.rules) p.0 in
    let rest = at_least (suc (first_of y.rules)) ds i d p.1 (omega (arith, w)) in
    omega (arith, low, rest)

-- one that is not higher stands before it
pub lower_at : (n k : ℕ) (ds : List Conflict) (i : ℕ) (d : Conflict) → rises n (first_rules ds) ≡ true → i < length ds → first_of (get_or ds i d).rules ≤ k → i < place_in k ds
lower_at n k [] i d h w g = absurd (omega (arith, w))
lower_at n k (y ∷ ds) zero d h w g = by (nat_lt k (first_of y.rules)) refl
  where
    by : (b : Bool) → nat_lt k (first_of y.rules) ≡ b → zero < cond b 0 (suc (place_in k ds))
    by true e = absurd (let less = ltb-true k (first_of y.rules) e in omega (arith, less, g))
    by false e = omega arith
lower_at n k (y ∷ ds) (suc i) d h w g =
    let p = and_parts (nat_le n (first_of y.rules)) (rises (suc (first_of y.rules)) (first_rules ds)) h in
    let above = at_least (suc (first_of y.rules)) ds i d p.1 (omega (arith, w)) in
    by (nat_lt k (first_of y.rules)) refl (omega (arith, above, g)) (lower_at (suc (first_of y.rules)) k ds i d p.1 (omega (arith, w)) g)
  where
    by : (b : Bool) → nat_lt k (first_of y.rules) ≡ b → first_of y.rules ≤ k → i < place_in k ds → suc i < cond b 0 (suc (place_in k ds))
    by true e low r = absurd (let less = ltb-true k (first_of y.rules) e in omega (arith, less, low))
    by false e low r = omega (arith, r)

first_place : (n k : ℕ) (ds : List Conflict) → rises n (first_rules ds) ≡ true → k < n → place_in k ds ≡ 0
first_place n k [] h low = refl
first_place n k (y ∷ ds) h low = by (nat_lt k (first_of y.rules)) (lt-ltb k (first_of y.rules) (let a = leb-true n (first_of y.rules) (and_parts (nat_le n (first_of y.rules)) (rises (suc (first_of y.rules)) (first_rules ds)) h).0 in omega (arith, a, low)))
  where
    by : (b : Bool) → b ≡ true → cond b 0 (suc (place_in k ds)) ≡ 0
    by true t = refl
    by false t = absurd (false≢true t)

-- where it is the first place, no first rule is this one
pub none_at : (n k : ℕ) (ds : List Conflict) → rises n (first_rules ds) ≡ true → place_in k ds ≡ 0 → is_among (first_rules ds) k ≡ false
none_at n k [] h e = refl
none_at n k (y ∷ ds) h e = by (nat_lt k (first_of y.rules)) refl e
  where
    rest : rises (suc (first_of y.rules)) (first_rules ds) ≡ true
    rest = (and_parts (nat_le n (first_of y.rules)) (rises (suc (first_of y.rules)) (first_rules ds)) h).1

    by : (b : Bool) → nat_lt k (first_of y.rules) ≡ b → cond b 0 (suc (place_in k ds)) ≡ 0 → is_among (first_rules (y ∷ ds)) k ≡ false
    by false less f = absurd (omega (arith, f))
    by true less f =
        low_out (first_of y.rules) k (first_rules (y ∷ ds)) (ltb-true k (first_of y.rules) less) (and_from (nat_le (first_of y.rules) (first_of y.rules)) (rises (suc (first_of y.rules)) (first_rules ds)) (le-leb (first_of y.rules) (first_of y.rules) (omega arith)) rest)

-- else it can be that of the one before the place alone
pub one_at : (n k : ℕ) (ds : List Conflict) (p : ℕ) (d : Conflict) → rises n (first_rules ds) ≡ true → place_in k ds ≡ suc p → (first_of (get_or ds p d).rules == k) ≡ is_among (first_rules ds) k
one_at n k [] p d h e = absurd (omega (arith, e))
one_at n k (y ∷ ds) p d h e = by (nat_lt k (first_of y.rules)) refl p e (λ q f. one_at (suc (first_of y.rules)) k ds q d rest f)
  where
    rest : rises (suc (first_of y.rules)) (first_rules ds) ≡ true
    rest = (and_parts (nat_le n (first_of y.rules)) (rises (suc (first_of y.rules)) (first_rules ds)) h).1

    other : (q : ℕ) (b : Bool) → (first_of y.rules == k) ≡ b → place_in k ds ≡ suc q → b ≡ false
    other q false s f = refl
    other q true s f =
        let same : first_of y.rules ≡ k = eqb-true (first_of y.rules) k s in
        let z = first_place (suc (first_of y.rules)) k ds rest (omega (arith, same)) in
        absurd (omega (arith, z, f))

    by : (b : Bool) → nat_lt k (first_of y.rules) ≡ b → (q : ℕ) → cond b 0 (suc (place_in k ds)) ≡ suc q → ((q : ℕ) → place_in k ds ≡ suc q → (first_of (get_or ds q d).rules == k) ≡ is_among (first_rules ds) k)
        → (first_of (get_or (y ∷ ds) q d).rules == k) ≡ is_among (first_rules (y ∷ ds)) k
    by true less q f go = absurd (omega (arith, f))
    by false less zero f go = with_or_false (first_of y.rules == k) ∙ ap (λ v. (first_of y.rules == k) || v) (sym (none_at (suc (first_of y.rules)) k ds rest (omega (arith, f))))
    by false less (suc q) f go =
        let here : place_in k ds ≡ suc q = omega (arith, f) in
        go q here ∙ ap (λ v. v || is_among (first_rules ds) k) (sym (other q (first_of y.rules == k) refl here))

-- conflicts that are apart stand in the order of their first rules, and are no more than what they list
pub in_order : (fixed : List Bool) (ds : List Conflict) → AreApart fixed ds → rises 0 (first_rules ds) ≡ true
in_order fixed ds apart = ap (rises 0) (sym (firsts_are ds apart.filled)) ∙ apart.in_order

pub no_more : (ds : List Conflict) → list_all has_rule ds ≡ true → length ds ≤ length (listed_of ds)
no_more [] h = omega arith
no_more (d ∷ ds) h =
    let p = and_parts (has_rule d) (list_all has_rule ds) h in
    let some = ltb-true 0 (length d.rules) p.0 in
    let rest = no_more ds p.1 in
    let both = length-append d.rules (listed_of ds) in
    omega (arith, some, rest, both)
