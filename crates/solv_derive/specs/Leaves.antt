-- The rules of the book that a log rests on.
use Rattle.std.specs.Prelude.{ℕ, ℤ, Bool, true, List, [], ◌∷◌, ◌==◌, Some, None, flat_map, fold, slice_get}
use Rattle.std.specs.List.{list_any, list_all}
use Rattle.std.specs.Ordering.{nat_cmp}
use Rattle.std.specs.BTreeSet.{insert_key}
use Rattle.solv_pool.specs.Clauses.{clause_true}
use Rattle.solv_derive.specs.declared.logs.Hint.{Hint}
use Rattle.solv_derive.specs.declared.logs.Hint.TheVariants as hint
use Rattle.solv_derive.specs.declared.logs.Step.{Step}

-- the rule that a hint names, if it names one
abbrev pub rule_of : Hint → List ℕ
rule_of (hint.Book rule) = rule ∷ []
rule_of (hint.Step step) = []

-- the rules that the hints of steps name, step by step and hint by hint
abbrev pub named_rules : List Step → List ℕ
named_rules steps = flat_map (λ s. flat_map rule_of s.hints) steps

-- those rules, ascending, each once
abbrev pub leaves : List Step → List ℕ
leaves steps = fold (insert_key nat_cmp) [] (named_rules steps)

-- the number is one of the list
abbrev pub is_one_of : List ℕ → ℕ → Bool
is_one_of rules rule = list_any (λ r. rule == r) rules

-- the set makes the clause of the rule true; of a number that names no rule nothing is asked
abbrev pub rule_true : List (List ℤ) → (ℕ → Bool) → ℕ → Bool
rule_true book set rule = elim (slice_get book rule) [ None ↦ true | Some c ↦ clause_true set c ]

-- the set makes each leaf of the steps true
abbrev pub leaves_true : List (List ℤ) → List Step → (ℕ → Bool) → Bool
leaves_true book steps set = list_all (rule_true book set) (leaves steps)
