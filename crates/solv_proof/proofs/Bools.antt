-- Small facts on tests.
use Rattle.std.proofs.Common.{◌≡◌, true, false, Bool, ◌&&◌, refl}

pub both : (a b : Bool) → (a && b) ≡ true → (a ≡ true) × (b ≡ true)
both true b h = (refl, h)
both false b h = absurd (cc)

pub joint : (a b : Bool) → a ≡ true → b ≡ true → (a && b) ≡ true
joint a b e f = rw (e, f) refl
