-- The words of lines of proof text.
use Rattle.std.specs.Prelude.{ℕ, List, [], ◌∷◌, map, codes}
use Rattle.std.specs.Fmt.{decimal}

-- the words of the line of the listed rules
abbrev pub rules_words : List ℕ → List (List ℕ)
rules_words rules = codes "rules" ∷ map decimal rules

-- the words of the line of the problem's name
abbrev pub problem_words : ℕ → ℕ → List (List ℕ)
problem_words round number = codes "problem" ∷ decimal round ∷ decimal number ∷ []
