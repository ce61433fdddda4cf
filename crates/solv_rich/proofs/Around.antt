-- A list of packages without one of them.
use Rattle.std.proofs.Common.{◌≡◌, ◌≤◌, ◌<◌, ◌+◌, ℕ, zero, suc, Bool, true, false, not, ◌&&◌, ◌||◌, List, [], ◌∷◌, ◌++◌, length, take, drop, Option, Some, None, refl, sym, ap, ◌∙◌, arith, add-one}
use Rattle.std.specs.Prelude.{filter, nat_le, ◌==◌, slice_get, unwrap_or, if◌then◌else◌}
use Rattle.std.specs.List.{list_any}
use Rattle.std.proofs.lemmas.Bool.Decides.{nat_tests}
use Rattle.std.proofs.lemmas.List.{take_all, drop_all, append-nil}
use Rattle.solv_pool.specs.Prelude.{package_meets, Dep, Catalog, members, all_meeting, clauses_package_wise}
use Rattle.solv_rich.specs.Inner.Expansions.{package_clauses}
use Rattle.solv_rich.specs.Inner.Singles.{without, rising}
use Rattle.solv_rich.proofs.Rising.{left_out}
use Rattle.solv_list.proofs.Booleans.{first_of_both, second_of_both}

kept_one : (b : Bool) (q : ℕ) (rest : List ℕ) → b ≡ true → (if b && true then q ∷ rest else rest) ≡ q ∷ rest
kept_one b q rest e = rw e refl

left_one : (b : Bool) (q : ℕ) (rest : List ℕ) → b ≡ false → (if b && true then q ∷ rest else rest) ≡ rest
left_one b q rest e = rw e refl

-- greater packages are all there without one
above : (x n : ℕ) (qs : List ℕ) → x < n → rising n qs ≡ true → without (Some x) qs ≡ qs
above x n [] low h = refl
above x n (q ∷ qs) low h =
    let le : nat_le n q ≡ true = first_of_both (nat_le n q) (rising (suc q) qs) h in
    let other : not (q == x) ≡ true = grind (arith, nat_tests, le, low) in
    kept_one (not (q == x)) q (without (Some x) qs) other ∙ ap (λ t. q ∷ t) (above x (suc q) qs (let le : n ≤ q = grind (arith, nat_tests, le) in omega (arith, le, low)) (second_of_both (nat_le n q) (rising (suc q) qs) h))

-- a member is not below the bound
at_least : (n : ℕ) (qs : List ℕ) (k x : ℕ) → rising n qs ≡ true → slice_get qs k ≡ Some x → n ≤ x
at_least n [] k x h at = absurd (cc)
at_least n (q ∷ qs) zero x h at =
    let own : q ≡ x = ap (λ o. unwrap_or o q) at in
    let le : nat_le n q ≡ true = first_of_both (nat_le n q) (rising (suc q) qs) h in
    rw (sym own) (let low : n ≤ q = grind (arith, nat_tests, le) in low)
at_least n (q ∷ qs) (suc k) x h at =
    let le : nat_le n q ≡ true = first_of_both (nat_le n q) (rising (suc q) qs) h in
    let low : n ≤ q = grind (arith, nat_tests, le) in
    let more : suc q ≤ x = at_least (suc q) qs k x (second_of_both (nat_le n q) (rising (suc q) qs) h) at in
    omega (arith, low, more)

-- those in front of it and those after it
pub place_is : (n : ℕ) (qs : List ℕ) (k x : ℕ) → rising n qs ≡ true → slice_get qs k ≡ Some x → take k qs ++ drop (k + 1) qs ≡ without (Some x) qs
place_is n [] k x h at = absurd (cc)
place_is n (q ∷ qs) zero x h at =
    let own : q ≡ x = ap (λ o. unwrap_or o q) at in
    let same : not (q == x) ≡ false = grind (arith, nat_tests, own) in
    sym (left_one (not (q == x)) q (without (Some x) qs) same ∙ above x (suc q) qs (omega (arith, own)) (second_of_both (nat_le n q) (rising (suc q) qs) h))
place_is n (q ∷ qs) (suc k) x h at =
    let more : suc q ≤ x = at_least (suc q) qs k x (second_of_both (nat_le n q) (rising (suc q) qs) h) at in
    let other : not (q == x) ≡ true = grind (arith, nat_tests, more) in
    rw add-one (ap (λ t. q ∷ t) (rw add-one at (place_is (suc q) qs k x (second_of_both (nat_le n q) (rising (suc q) qs) h) at)) ∙ sym (kept_one (not (q == x)) q (without (Some x) qs) other))

all_there : (qs : List ℕ) → take (length qs) qs ++ drop (length qs + 1) qs ≡ qs
all_there qs = ap (λ t. t ++ drop (length qs + 1) qs) (take_all (length qs) qs (omega arith)) ∙ ap (λ t. qs ++ t) (drop_all (length qs + 1) qs (omega arith)) ∙ append-nil qs

none_left : (x : ℕ) (qs : List ℕ) → list_any (λ q. q == x) qs ≡ false → without (Some x) qs ≡ qs
none_left x [] h = refl
none_left x (q ∷ qs) h =
    let apart = neither (q == x) (list_any (λ q. q == x) qs) h in
    kept_one (not (q == x)) q (without (Some x) qs) (ap not apart.0) ∙ ap (λ t. q ∷ t) (none_left x qs apart.1)
  where
    neither : (a b : Bool) → (a || b) ≡ false → (a ≡ false) × (b ≡ false)
    neither true b h = absurd (cc)
    neither false b h = (refl, h)

pub not_there : (x : ℕ) (qs : List ℕ) → list_any (λ q. q == x) qs ≡ false → take (length qs) qs ++ drop (length qs + 1) qs ≡ without (Some x) qs
not_there x qs h = all_there qs ∙ sym (none_left x qs h)

all_kept : (qs : List ℕ) → without None qs ≡ qs
all_kept [] = refl
all_kept (q ∷ qs) = ap (λ t. q ∷ t) (all_kept qs)

pub without_none : (qs : List ℕ) → take (length qs) qs ++ drop (length qs + 1) qs ≡ without None qs
without_none qs = all_there qs ∙ sym (all_kept qs)

module _ (catalog : Catalog) where
  clauses_by : (at : Bool) (x : Option ℕ) (d : Dep ℕ) → package_clauses at (all_meeting catalog x d) ≡ clauses_package_wise catalog x at d
  clauses_by true x d = refl
  clauses_by false x d = refl

  pub leaf_is : (at : Bool) (x : Option ℕ) (d : Dep ℕ) (first others : List ℕ) → first ++ others ≡ without x (filter (package_meets catalog d) (members catalog))
      → package_clauses at (first ++ others) ≡ clauses_package_wise catalog x at d
  leaf_is at x d first others e = ap (package_clauses at) (e ∙ sym (left_out x (package_meets catalog d) (members catalog))) ∙ clauses_by at x d
