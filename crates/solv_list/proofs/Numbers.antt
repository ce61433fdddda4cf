-- Numbers that are compared.
use Rattle.std.proofs.Common.{arith, eq-eqb, false, inl, inr, refl, suc, sym, true, ℕ, ◌*◌, ◌+◌, ◌-◌, ◌<◌, ◌≡◌, ◌≤◌, ◌⊎◌}
use Rattle.std.proofs.lemmas.Bool.{cases_Bool, eqb-true, leb-true, lt-ltb, ltb-true}
use Rattle.std.proofs.lemmas.Bool.Decides.{Decides-int_eq, nat_tests}
use Rattle.std.proofs.lemmas.Int.{ints}
use Rattle.std.specs.Ordering.{int_eq, ordering_then}
use Rattle.std.specs.Prelude.{int_lt, min, nat_le, nat_lt, ℤ, ◌==◌}
use Rattle.std.specs.declared.cmp.Ordering.{Ordering}
use Rattle.std.specs.declared.cmp.Ordering.TheVariants.{Equal, Greater, Less}
use Rattle.solv_list.proofs.Booleans.{same_truth}

pub equal_swapped : (a b : ℕ) → (a == b) ≡ (b == a)
equal_swapped a b = same_truth (a == b) (b == a) (λ h. eq-eqb b a (sym (eqb-true a b h))) (λ h. eq-eqb a b (sym (eqb-true b a h)))

pub equal_to_itself : (m : ℕ) → (m == m) ≡ true
equal_to_itself m = grind (arith, nat_tests)

pub same_number : (m n : ℕ) → (m == n) ≡ true → m ≡ n
same_number m n h = grind (arith, nat_tests)

pub at_most_true : (m n : ℕ) → m ≤ n → nat_le m n ≡ true
at_most_true m n h = grind (arith, nat_tests)

pub successor_not_zero : (k : ℕ) → (suc k == 0) ≡ false
successor_not_zero k = grind arith

pub zero_not_successor : (k : ℕ) → (0 == suc k) ≡ false
zero_not_successor k = grind arith

pub not_below_itself : (n : ℕ) → nat_lt n n ≡ false
not_below_itself n = elim (cases_Bool (nat_lt n n)) [ inl t ↦ absurd (let l : n < n = ltb-true n n t in omega (arith, l)) | inr f ↦ f ]

pub then_less : (r s t : Ordering) → (s ≡ Less → t ≡ Less) → ordering_then r s ≡ Less → ordering_then r t ≡ Less
then_less Less s t f h = refl
then_less Equal s t f h = f h
then_less Greater s t f h = cc

pub then_equal : (r : Ordering) → ordering_then r Equal ≡ r
then_equal Less = refl
then_equal Equal = refl
then_equal Greater = refl

pub below_wider : (a m n : ℕ) → m ≤ n → nat_lt a m ≡ true → nat_lt a n ≡ true
below_wider a m n le h = let l : a < m = ltb-true a m h in grind (arith, nat_tests)

pub same_integer : (x y : ℤ) → int_eq x y ≡ true → x ≡ y
same_integer x y h = (Decides-int_eq x y).0 h

pub least_of_two : (a x : ℕ) → (min a x ≡ a) ⊎ (min a x ≡ x)
least_of_two a x = grind (arith, nat_tests)

pub true_at_most : (x y : ℕ) → nat_le x y ≡ true → x ≤ y
true_at_most x y h = leb-true x y h

pub integer_not_below_itself : (z : ℤ) → int_lt z z ≡ false
integer_not_below_itself z = grind (arith, ints)

pub one_time_more : (m n : ℕ) → n + m * n ≡ suc m * n
one_time_more m n = grind arith

pub below_more : (m n k : ℕ) → m ≤ n → nat_lt k m ≡ true → nat_lt k n ≡ true
below_more m n k le h = let lt : k < m = ltb-true k m h in lt-ltb k n (omega arith)
