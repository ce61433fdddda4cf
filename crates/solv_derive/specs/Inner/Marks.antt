-- What the checker's table of marks says. No public contract names it.
use Rattle.std.specs.Prelude.{◌≡◌, ℕ, ◌+◌, ◌*◌, ◌≤◌, ◌==◌, ℤ, Bool, true, List, slice_index, length}
use Rattle.solv_pack.specs.Inner.Literals.{place_of}
use Rattle.solv_pool.specs.Prelude.{is_fact, names_package}

-- the mark of the literal is that of now
abbrev pub is_marked : List ℕ → ℕ → ℤ → Bool
is_marked marks now l = slice_index marks (place_of l) == now

-- the marks of now are these facts, and none is later
pub record Shows (count : ℕ) (marks : List ℕ) (now : ℕ) (facts : List ℤ) : Type 0 where
  pub size : length marks ≡ 2 * count + 2
  pub upto : (k : ℕ) → slice_index marks k ≤ now
  pub is : (l : ℤ) → names_package count l ≡ true → is_marked marks now l ≡ is_fact facts l
