-- Questions kind by kind.
use Rattle.std.specs.Prelude.{ℕ, ℤ, Bool, true, false, not, ◌&&◌, List, ◌++◌, Option, Some, None, filter, find, nat_lt}
use Rattle.std.specs.List.{list_any}
use Rattle.solv_pool.specs.Prelude.{Dep, passes, is_among, Catalog, packages, package_at, dependency, same_name, holds, successors, HardRule}
use Rattle.solv_pool.specs.declared.tasks.Flags.{Flags}
use Rattle.solv_pool.specs.declared.job_marks.Marks.{Marks}
use Rattle.solv_trail.specs.Asked.{set_of}
use Rattle.solv_trail.specs.declared.questions.Question.{Question}
use Rattle.solv_trail.specs.declared.questions.Question.TheVariants as question
use Rattle.solv_policy.specs.Policy.{by_policy}
use Rattle.solv_policy.specs.declared.policy.Asked.TheVariants.{Kept}
use Rattle.solv_questions.specs.Candidates.{may_take, may_break}
use Rattle.solv_questions.specs.Questions.{Query, enabled_from, is_outside, query_at, requirement_queries, conflict_queries}

-- those of these rules that are enabled
abbrev pub enabled_rules : List Bool → List HardRule → List HardRule
enabled_rules enabled rules = enabled_from enabled 0 rules

-- those of these packages that are not among the others
abbrev pub without_those : List ℕ → List ℕ → List ℕ
without_those others xs = filter (λ q. not (is_among others q)) xs

-- the successors of an installed package, by policy
abbrev pub close_candidates : Catalog → Flags → Marks → ℕ → List ℕ
close_candidates catalog flags marks p = by_policy catalog marks (Kept p) (successors catalog flags marks p)

-- the first of these packages that is not known out
abbrev pub first_possible : (ℤ → Bool) → List ℕ → Option ℕ
first_possible known xs = find (λ p. not (is_outside known p)) xs

-- the package may be taken for a dependency that does not hold
abbrev pub is_candidate : Catalog → (ℤ → Bool) → Dep ℕ → ℕ → Bool
is_candidate catalog known d p = may_take catalog (is_outside known) None (set_of known) d p

-- the package may be taken against a conflict of p that holds, where p itself does not count
abbrev pub is_against : Catalog → (ℤ → Bool) → ℕ → Dep ℕ → ℕ → Bool
is_against catalog known p d q = may_break catalog (is_outside known) (Some p) (set_of known) d q

-- p has the lowest number of its name
abbrev pub is_first_of_name : Catalog → ℕ → Bool
is_first_of_name catalog p = not (list_any (λ q. nat_lt q p && same_name catalog p q) (packages catalog))

-- a supplement of p holds
abbrev pub is_supplementing : Catalog → (ℤ → Bool) → ℕ → Bool
is_supplementing catalog known p = passes (package_at catalog p) (λ a. list_any (λ d. holds catalog (dependency catalog d) (set_of known)) a.supplements)

module _ (catalog : Catalog) (marks : Marks) (known : ℤ → Bool) where
  -- a dependency that is to hold
  abbrev pub dependency_query : Question → ℕ → Query
  dependency_query question d = query_at catalog marks known question None true d

  -- a conflict of p that no package meets alone: it is not to hold without p
  abbrev pub conflict_query : ℕ → ℕ → Query
  conflict_query p d = query_at catalog marks known (question.Conflicts p d) (Some p) false d

  -- the requirements of a package, and then its conflicts
  abbrev pub queries_of_package : ℕ → List Query
  queries_of_package p = requirement_queries catalog marks known p ++ conflict_queries catalog marks known p
