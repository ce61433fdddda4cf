-- The packages that a guide takes from nothing.
use Rattle.std.specs.Prelude.{ℕ, zero, suc, ℤ, pos, Bool, false, ◌&&◌, List, [], ◌∷◌, ◌++◌, Option, Some, None, map, length, take, nat_lt, ◌-◌, if◌then◌else◌}
use Rattle.std.specs.List.{list_all}
use Rattle.solv_pool.specs.Propagation.{is_fact, is_refuted, is_open, unit, clashes}

-- asks: the package that is asked for where these literals are known
module _ (count : ℕ) (clauses : List (List ℤ)) (asks : (ℤ → Bool) → Option ℕ) where
  -- what unit propagation leaves known where these packages are taken
  abbrev pub known_after : List ℕ → List ℤ
  known_after taken = unit count clauses (map pos taken)

  -- these packages, and at most so many that are asked for one after another, until there is a conflict or nothing is asked for
  abbrev pub walk_within : ℕ → List ℕ → List ℕ
  walk_within zero taken = taken
  walk_within (suc more) taken = elim (if clashes clauses (known_after taken) then None else asks (is_fact (known_after taken))) [ None ↦ taken | Some p ↦ walk_within more (taken ++ p ∷ []) ]

  -- all that are asked for from nothing
  abbrev pub walk : List ℕ
  walk = walk_within count []

-- the first literal is open, and the others are false
abbrev pub asserts : List ℤ → List ℤ → Bool
asserts facts [] = false
asserts facts (l ∷ ls) = is_open facts l && list_all (is_refuted facts) ls

-- the choices from nothing meet a conflict, and before the last of them the clause asserts its first literal
abbrev pub met_by_choices : ℕ → List (List ℤ) → ((ℤ → Bool) → Option ℕ) → List ℤ → Bool
met_by_choices count clauses asks learnt =
    let taken : List ℕ = walk count clauses asks in
    nat_lt 0 (length taken) && clashes clauses (known_after count clauses asks taken) && asserts (known_after count clauses asks (take (length taken - 1) taken)) learnt
