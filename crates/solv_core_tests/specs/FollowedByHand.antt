-- Rules that can be followed by hand, and a guide that asks for one package.
use Rattle.std.specs.Prelude.{◌≡◌, ℤ, pos, negsuc, Bool, ◌||◌, List, [], ◌∷◌, Option, Some, None, if◌then◌else◌}
use Rattle.solv_trail.specs.declared.questions.Ask.{Ask}
use Rattle.solv_trail.specs.declared.questions.Question.TheVariants as question

-- each rule but the last forces a literal after the one before it
abbrev pub chain : List (List ℤ)
chain = (pos 1 ∷ []) ∷ (negsuc 0 ∷ pos 2 ∷ []) ∷ (negsuc 1 ∷ pos 3 ∷ []) ∷ (negsuc 2 ∷ negsuc 0 ∷ []) ∷ []

-- no set makes all four true
abbrev pub four : List (List ℤ)
four = (pos 1 ∷ pos 2 ∷ []) ∷ (pos 1 ∷ negsuc 1 ∷ []) ∷ (negsuc 0 ∷ pos 3 ∷ []) ∷ (negsuc 0 ∷ negsuc 2 ∷ []) ∷ []

-- the package 1 where nothing is known of it, and then nothing
abbrev pub asks_for_one : (ℤ → Bool) → Option Ask
asks_for_one known = if known (pos 1) || known (negsuc 0) then None else Some (record { pack = 1; question = question.Keep 1 })

-- it is a guide over no clauses
abbrev pub IsNone : List (List ℤ) → Type 0
IsNone clauses = clauses ≡ []
