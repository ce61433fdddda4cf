-- Where no condition could make a package ask for something.
use Rattle.std.proofs.Common.{◌≡◌, ℕ, true, false, ◌&&◌, ◌||◌, refl, ap}
use Rattle.std.proofs.lemmas.Bool.{false≢true, or_left}
use Rattle.solv_pool.specs.Prelude.{Dep, and, or, joined, under, under_else, missing, package_wise}
use Rattle.solv_leaving.specs.Inner.Leaving.{is_plainly_met}

-- what packages meet alone is plainly met
pub wise_is_plain : (d : Dep ℕ) → package_wise d ≡ true → is_plainly_met d ≡ true
wise_is_plain (joined and a b) h = absurd (false≢true h)
wise_is_plain (joined or a b) h = or_left (package_wise a && package_wise b) (is_plainly_met a && is_plainly_met b) h
wise_is_plain (under k a b) h = absurd (false≢true h)
wise_is_plain (under_else k a b c) h = absurd (false≢true h)
wise_is_plain missing h = absurd (false≢true h)
wise_is_plain d h = refl

-- a disjunction that packages do not meet alone
pub or_is_plain : (a b : Dep ℕ) → package_wise (joined or a b) ≡ false → is_plainly_met (joined or a b) ≡ (is_plainly_met a && is_plainly_met b)
or_is_plain a b h = ap (λ t. t || (is_plainly_met a && is_plainly_met b)) h
