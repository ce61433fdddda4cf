-- Where walks lead that start at some of the vertices.
use Rattle.std.specs.Prelude.{ℕ, zero, suc, Bool, ◌||◌, List, length, filter, ◌==◌}
use Rattle.std.specs.List.{list_any}

module _ (edge : ℕ → ℕ → Bool) (vertices : List ℕ) where
  -- the vertices that are among these, or to which an edge leads from one of these
  abbrev pub and_next : List ℕ → List ℕ
  and_next xs = filter (λ q. list_any (λ p. p == q) xs || list_any (λ p. edge p q) xs) vertices

  -- where walks over at most so many edges lead from these
  abbrev pub reached_within : ℕ → List ℕ → List ℕ
  reached_within zero xs = xs
  reached_within (suc n) xs = and_next (reached_within n xs)

  -- where walks lead from these; none needs more edges than there are vertices
  abbrev pub reached : List ℕ → List ℕ
  reached xs = reached_within (length vertices) xs
