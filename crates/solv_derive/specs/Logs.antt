-- Derivations: good steps and good logs. A step is derived by reverse unit propagation along its hints.
use Rattle.std.specs.Prelude.{ℕ, ℤ, neg_ℤ, Bool, true, false, ◌&&◌, List, [], ◌∷◌, ◌++◌, Option, Some, None, map, length, slice_get, if◌then◌else◌}
use Rattle.solv_derive.specs.Forced.{is_falsified, forced}
use Rattle.solv_derive.specs.declared.logs.Hint.{Hint}
use Rattle.solv_derive.specs.declared.logs.Hint.TheVariants as hint
use Rattle.solv_derive.specs.declared.logs.Step.{Step}
use Rattle.solv_derive.specs.declared.logs.Checked.{Checked}
use Rattle.solv_derive.specs.declared.logs.Checked.TheVariants.{Yes, No}

-- each hint names a clause; each but the last forces a literal, which is added to the facts; the last is falsified
abbrev pub ends_in_conflict : (Hint → Option (List ℤ)) → List ℤ → List Hint → Bool
ends_in_conflict look facts [] = false
ends_in_conflict look facts (h ∷ []) = elim (look h) [ None ↦ false | Some c ↦ is_falsified facts c ]
ends_in_conflict look facts (h ∷ g ∷ hints) = elim (look h) [ None ↦ false | Some c ↦ elim (forced facts c) [ None ↦ false | Some l ↦ ends_in_conflict look (l ∷ facts) (g ∷ hints) ] ]

-- the clause that a hint names: one of the book, or that of an earlier step
abbrev pub hint_clause : List (List ℤ) → List (List ℤ) → Hint → Option (List ℤ)
hint_clause book earlier (hint.Book rule) = slice_get book rule
hint_clause book earlier (hint.Step step) = slice_get earlier step

-- from the negations of its clause the hints of a step end in a conflict
abbrev pub is_good_step : List (List ℤ) → List (List ℤ) → Step → Bool
is_good_step book earlier step = ends_in_conflict (hint_clause book earlier) (map neg_ℤ step.clause) step.hints

-- each step is good, after those whose clauses are given
abbrev pub are_good_steps : List (List ℤ) → List (List ℤ) → List Step → Bool
are_good_steps book earlier [] = true
are_good_steps book earlier (s ∷ steps) = is_good_step book earlier s && are_good_steps book (earlier ++ s.clause ∷ []) steps

-- the clause has no literal
abbrev pub is_empty : List ℤ → Bool
is_empty [] = true
is_empty (l ∷ ls) = false

-- there is a last step, and its clause is empty
abbrev pub ends_empty : List Step → Bool
ends_empty [] = false
ends_empty (s ∷ []) = is_empty s.clause
ends_empty (s ∷ t ∷ steps) = ends_empty (t ∷ steps)

-- each step is good, and the last clause is empty
abbrev pub is_good_log : List (List ℤ) → List Step → Bool
is_good_log book steps = are_good_steps book [] steps && ends_empty steps

-- the number of the first step that is not good, after those whose clauses are given
abbrev pub first_bad : List (List ℤ) → List (List ℤ) → List Step → Option ℕ
first_bad book earlier [] = None
first_bad book earlier (s ∷ steps) =
    if is_good_step book earlier s then first_bad book (earlier ++ s.clause ∷ []) steps else Some (length earlier)

-- what a check answers: the first step that is not good, else the number of steps where no empty clause ends them, else yes
abbrev pub checked : List (List ℤ) → List Step → Checked
checked book steps = elim (first_bad book [] steps) [ Some n ↦ No n | None ↦ if ends_empty steps then Yes else No (length steps) ]
