-- Elements by their places.
use Rattle.std.proofs.Common.{◌≡◌, ℕ, zero, suc, ◌-◌, ◌<◌, true, List, [], ◌∷◌, length, sym, arith, get_or, eq-eqb}
use Rattle.std.specs.Prelude.{◌==◌}
use Rattle.std.proofs.lemmas.Bool.{or_left, or_right}
use Rattle.solv_pool.specs.Prelude.{is_among}

-- an element by its place is in the list
pub among_get : (xs : List ℕ) (i x : ℕ) → i < length xs → x ≡ get_or xs i x → is_among xs x ≡ true
among_get [] i x lt at = absurd (omega arith)
among_get (y ∷ xs) zero x lt at = or_left (y == x) (is_among xs x) (eq-eqb y x (sym at))
among_get (y ∷ xs) (suc i) x lt at = or_right (y == x) (is_among xs x) (among_get xs i x (omega (arith, lt)) at)
