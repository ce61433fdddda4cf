-- What a list of facts makes of a clause: falsified, or one that forces a literal.
use Rattle.std.specs.Prelude.{ℤ, Bool, List, filter, Option, None, if◌then◌else◌}
use Rattle.std.specs.List.{list_any, list_all}
use Rattle.solv_pool.specs.Propagation.{is_fact, is_refuted, is_open, only}

-- each literal of the clause is refuted
abbrev pub is_falsified : List ℤ → List ℤ → Bool
is_falsified facts c = list_all (is_refuted facts) c

-- the one open literal, counted by places, of a clause with no true one
abbrev pub forced : List ℤ → List ℤ → Option ℤ
forced facts c = if list_any (is_fact facts) c then None else only (filter (is_open facts) c)
