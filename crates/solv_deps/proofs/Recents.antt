-- Rows of texts that were read, while their pool grows and rows are written.
use Rattle.std.proofs.Common.{◌≡◌, ◌∙◌, ℕ, zero, suc, List, [], ◌∷◌, slice_get, Some, Ok, sym, ap, subst, arith}
use Rattle.std.specs.Prelude.{slice_set, replicate}
use Rattle.solv_base.specs.Pool.{Held, Grows}
use Rattle.solv_deps.specs.declared.recent.Recent.{Recent}
use Rattle.solv_deps.specs.Inner.Recent.{AreRead}

-- what holds of a value and of all values of a list holds of all when it is written at a place
pub written_keeps : {X : Type 0} (P : X → Type 0) (xs : List X) (i : ℕ) (x : X) → P x → ((n : ℕ) (y : X) → slice_get xs n ≡ Some y → P y)
    → (n : ℕ) (y : X) → slice_get (slice_set xs i x) n ≡ Some y → P y
written_keeps P [] i x new all n y at = all n y at
written_keeps P (z ∷ xs) zero x new all zero y at =
    let same : x ≡ y = cc in
    subst P same new
written_keeps P (z ∷ xs) zero x new all (suc n) y at = all (suc n) y at
written_keeps P (z ∷ xs) (suc i) x new all zero y at = all zero y at
written_keeps P (z ∷ xs) (suc i) x new all (suc n) y at = written_keeps P xs i x new (λ m w h. all (suc m) w h) n y at

-- each value of a list of equal values is that one
pub all_equal : {X : Type 0} (m : ℕ) (x : X) (n : ℕ) (y : X) → slice_get (replicate m x) n ≡ Some y → x ≡ y
all_equal zero x n y at = cc
all_equal (suc m) x zero y at = cc
all_equal (suc m) x (suc n) y at = all_equal m x n y at

-- rows that were read into a pool were read into one that has grown from it
pub read_before : (old new : Held) (recent : Recent) → Grows old new → AreRead old recent → AreRead new recent
read_before old new recent grows are n row at =
    let is = are n row at in
    record {
      read = λ some. is.read some ∙ ap Ok (sym (grows.trees row.id (is.below some)));
      below = λ some. omega (arith, is.below some, grows.nodes);
    }
