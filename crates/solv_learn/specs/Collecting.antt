-- What a search through the literals that are known collects.
use Rattle.std.specs.Prelude.{ℤ, Bool, true, not, ◌&&◌, List, [], ◌∷◌}
use Rattle.solv_pool.specs.Propagation.{is_fact, is_refuted}

-- no literal stands twice, and none with its negation
abbrev pub is_plain : List ℤ → Bool
is_plain [] = true
is_plain (l ∷ ls) = (not (is_fact ls l) && not (is_refuted ls l)) && is_plain ls
