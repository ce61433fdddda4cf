-- The id of a text that is not held.
use Rattle.std.proofs.Common.{ℕ, ◌≡◌, ◌+◌, true, false, List, [], ◌∷◌, suc, length, cond, refl, arith}
use Rattle.std.specs.Prelude.{not, ◌||◌}
use Rattle.std.specs.Str.{bytes_eq}
use Rattle.solv_base.specs.Pool.{is_name, name_id}

-- a text that is not there gets the next id
pub id_of_new : (names : List (List ℕ)) (text : List ℕ) → is_name names text ≡ false → name_id names text ≡ length names
id_of_new [] text h = refl
id_of_new (n ∷ names) text h =
    elim (bytes_eq text n) as (λ b. (b || is_name names text) ≡ false → cond (not b) (1 + name_id names text) 0 ≡ suc (length names)) [
      | true ↦ λ e. cc
      | false ↦ λ e. rw (id_of_new names text e) (omega arith)
    ] h
