-- Choices one after another.
use Rattle.std.specs.Prelude.{ℕ, ℤ, Bool, List, length, take, ◌-◌, Option, None, if◌then◌else◌}
use Rattle.solv_pool.specs.Prelude.{is_fact, clashes}
use Rattle.solv_trail.specs.Walk.{known_after}

-- what is asked for where these packages are taken, unless there is a conflict
abbrev pub choice_after : ℕ → List (List ℤ) → ((ℤ → Bool) → Option ℕ) → List ℕ → Option ℕ
choice_after count clauses asks taken =
    if clashes clauses (known_after count clauses asks taken) then None else asks (is_fact (known_after count clauses asks taken))

-- all but the last of a list
abbrev pub without_last : List ℕ → List ℕ
without_last taken = take (length taken - 1) taken
