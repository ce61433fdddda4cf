-- A list of members is the members that are among it.
use Rattle.std.proofs.Common.{◌≡◌, ℕ, suc, Bool, true, List, [], ◌∷◌, length, refl, sym, arith}
use Rattle.std.specs.Prelude.{filter, nat_lt, nat_le}
use Rattle.std.specs.List.{list_all}
use Rattle.std.proofs.lemmas.Bool.Decides.{nat_tests}
use Rattle.solv_pool.specs.Prelude.{is_among, Catalog, members}
use Rattle.solv_trans.specs.Effects.{IsMemberList}
use Rattle.solv_list.proofs.Booleans.{first_of_both, second_of_both}
use Rattle.std.proofs.lemmas.Bool.{and_from}
use Rattle.solv_pool.proofs.Rises.{rises_from, rising_is}

weaker : (f g : ℕ → Bool) (zs : List ℕ) → ((x : ℕ) → f x ≡ true → g x ≡ true) → list_all f zs ≡ true → list_all g zs ≡ true
weaker f g [] h k = refl
weaker f g (z ∷ zs) h k = and_from (g z) (list_all g zs) (h z (first_of_both (f z) _ k)) (weaker f g zs h (second_of_both (f z) _ k))

all_from_zero : (zs : List ℕ) → list_all (λ x. nat_le 0 x) zs ≡ true
all_from_zero [] = refl
all_from_zero (z ∷ zs) = let here : nat_le 0 z ≡ true = grind (arith, nat_tests) in and_from (nat_le 0 z) (list_all (λ x. nat_le 0 x) zs) here (all_from_zero zs)

pub members_are : (catalog : Catalog) (set : List ℕ) → IsMemberList (length catalog.universe.packages) set → filter (is_among set) (members catalog) ≡ set
members_are catalog set are =
    let count = length catalog.universe.packages in
    sym (rising_is 0 (suc count) (suc count) set (omega arith) (rises_from 0 set are.rises (all_from_zero set))
    (weaker (λ x. nat_le x count) (λ x. nat_lt x (suc count)) set (λ x h. grind (arith, nat_tests, h)) are.within))
