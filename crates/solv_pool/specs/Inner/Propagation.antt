-- Steps of unit propagation.
use Rattle.std.specs.Prelude.{ℤ, neg_ℤ, Bool, not, ◌&&◌, List, ◌∷◌, Option, None, filter, fold, if◌then◌else◌}
use Rattle.std.specs.List.{list_any}
use Rattle.std.specs.Option.{option_map_or}
use Rattle.solv_pool.specs.Propagation.{only, facts_after}

-- a fact more, where a clause has one open literal
abbrev pub with_single : List ℤ → List ℤ → List ℤ
with_single facts opens = option_map_or (λ l. l ∷ facts) (only opens) facts

-- once through the clauses, in order
abbrev pub round : List (List ℤ) → List ℤ → List ℤ
round clauses facts = fold facts_after facts clauses

-- by a test for what is a fact: the one open literal of a clause with no true one
abbrev pub forced_by : (ℤ → Bool) → List ℤ → Option ℤ
forced_by known c = if list_any known c then None else only (filter (λ l. not (known l) && not (known (neg_ℤ l))) c)
