-- Whether a literal says another package in, by its sign and its number.
use Rattle.std.proofs.Common.{◌≡◌, ℕ, zero, suc, ◌+◌, ◌<◌, ◌==◌, true, not, ◌&&◌, List, [], ◌∷◌, drop, Some, refl, ap, add-one}
use Rattle.std.specs.Prelude.{ℤ, pos, negsuc, nat_abs, int_lt, slice_get}
use Rattle.std.proofs.lemmas.Bool.{lt-ltb}
use Rattle.solv_core_tests.specs.OnePackage.{says_other_in, says_one_in, say_one_in}

pub says_other_is : (p : ℕ) (l : ℤ) → 0 < nat_abs l → (int_lt (pos 0) l && not (nat_abs l == p)) ≡ says_other_in p l
says_other_is p (pos n) h = let e : int_lt (pos 0) (pos n) ≡ true = lt-ltb 0 n h in rw e refl
says_other_is p (negsuc n) h = refl

next_say : (p : ℕ) (rules : List (List ℤ)) (i : ℕ) (c : List ℤ) → slice_get rules i ≡ Some c → say_one_in p (drop i rules) ≡ (says_one_in p c && say_one_in p (drop (suc i) rules))
next_say p [] i c h = absurd (cc)
next_say p (d ∷ rules) zero c h = let e : d ≡ c = cc in ap (λ x. says_one_in p x && say_one_in p rules) e
next_say p (d ∷ rules) (suc i) c h = next_say p rules i c h

pub say_next : (p : ℕ) (rules : List (List ℤ)) (i : ℕ) (c : List ℤ) → slice_get rules i ≡ Some c → say_one_in p (drop i rules) ≡ (says_one_in p c && say_one_in p (drop (i + 1) rules))
say_next p rules i c h = rw add-one (next_say p rules i c h)
