-- What names packages up to a number names packages up to each greater one.
use Rattle.std.proofs.Common.{◌≡◌, ◌≤◌, ℕ, true, List, [], ◌∷◌, refl, arith}
use Rattle.std.specs.Prelude.{ℤ}
use Rattle.std.proofs.lemmas.Bool.{and_parts}
use Rattle.std.proofs.lemmas.Bool.Decides.{nat_tests}
use Rattle.solv_pool.specs.Range.{names_package, is_over, are_over}

names_more : (n m : ℕ) → n ≤ m → (l : ℤ) → names_package n l ≡ true → names_package m l ≡ true
names_more n m h l e = grind (arith, nat_tests, e)

pub is_over_more : (n m : ℕ) → n ≤ m → (c : List ℤ) → is_over n c ≡ true → is_over m c ≡ true
is_over_more n m h [] e = refl
is_over_more n m h (l ∷ c) e = let cut = and_parts (names_package n l) (is_over n c) e in rw (names_more n m h l cut.0, is_over_more n m h c cut.1) refl

pub are_over_more : (n m : ℕ) → n ≤ m → (cs : List (List ℤ)) → are_over n cs ≡ true → are_over m cs ≡ true
are_over_more n m h [] e = refl
are_over_more n m h (c ∷ cs) e = let cut = and_parts (is_over n c) (are_over n cs) e in rw (is_over_more n m h c cut.0, are_over_more n m h cs cut.1) refl
