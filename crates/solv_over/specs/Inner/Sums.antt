-- How many rules and clauses are not made, package by package, and how many come before a rule.
use Rattle.std.specs.Prelude.{ℕ, suc, ◌≡◌, ◌≤◌, ◌<◌, ◌+◌, ◌==◌, ◌||◌, Bool, not, List, [], ◌∷◌, Some, filter, length, map, slice_get, slice_index, unwrap_or, if◌then◌else◌}
use Rattle.std.specs.List.{list_all}
use Rattle.std.specs.Option.{option_map_or}
use Rattle.solv_pool.specs.JobMarks.{marked}
use Rattle.solv_pool.specs.Catalog.{Catalog, members, package_at}
use Rattle.solv_prov.specs.Index.{providers_of}
use Rattle.solv_pool.specs.declared.packages.Need.{Need}
use Rattle.solv_pool.specs.declared.hard_rules.Rule.{Rule}
use Rattle.solv_pool.specs.declared.hard_rules.Rule.TheVariants as rule

-- none is less than one before it
abbrev pub IsAscending : List ℕ → Type 0
IsAscending xs = (i j : ℕ) → i ≤ j → j < length xs → slice_index xs i ≤ slice_index xs j

-- so it is in each list
abbrev pub AreAscending : List (List ℕ) → Type 0
AreAscending lists = (place : ℕ) (xs : List ℕ) → slice_get lists place ≡ Some xs → IsAscending xs

-- neither the system nor p is among them
abbrev pub are_others : ℕ → List ℕ → Bool
are_others p qs = list_all (λ q. not (q == 0 || q == p)) qs

module _ (catalog : Catalog) where
  -- a clause says that p has what it requires by packages alone, unless p itself or the system meets it
  abbrev pub gives_clause : ℕ → ℕ → Bool
  gives_clause p d = are_others p (providers_of catalog d)

  -- how many clauses these requirements of p give
  abbrev pub needed_clauses : ℕ → List Need → ℕ
  needed_clauses p needs = length (filter (λ need. gives_clause p need.dep) needs)

  module _ (left : List Bool) where
    -- how many rules of p are not made
    abbrev pub unmade_rules : ℕ → ℕ
    unmade_rules p = if marked left p then option_map_or (λ a. length a.requires_) (package_at catalog p) 0 else 0

    -- how many clauses they have
    abbrev pub unmade_clauses : ℕ → ℕ
    unmade_clauses p = if marked left p then option_map_or (λ a. needed_clauses p a.requires_) (package_at catalog p) 0 else 0

-- the sums of the first so many numbers, from none to all, with this one added to each
abbrev pub sums_from : ℕ → List ℕ → List ℕ
sums_from sum [] = sum ∷ []
sums_from sum (n ∷ ns) = sum ∷ sums_from (sum + n) ns

-- how many clauses of the first so many packages, the system one of them, are not made
abbrev pub unmade_before : Catalog → List Bool → List ℕ
unmade_before catalog left = sums_from 0 (map (unmade_clauses catalog left) (members catalog))

-- how many packages, the system one of them, have what is not made before a rule: the requirements of a package stand behind the rule that it is not installable, and before
-- all others of it; and all packages before a rule that is of no package
abbrev pub stage : ℕ → Rule → ℕ
stage count (rule.NotInstallable p) = p
stage count (rule.Req p d) = suc p
stage count (rule.Con p d q) = suc p
stage count (rule.RichCon p d) = suc p
stage count (rule.Obs p d q) = suc p
stage count (rule.Same p q) = suc p
stage count _ = suc count

-- before the rule of a number; all come before what stands behind the last
abbrev pub stage_at : List Rule → ℕ → ℕ → ℕ
stage_at rules count k = option_map_or (stage count) (slice_get rules k) (suc count)

-- the number at a place of a table
abbrev pub sum_at : List ℕ → ℕ → ℕ
sum_at table s = unwrap_or (slice_get table s) 0

-- the place of a rule among all, where a table has the sums
abbrev pub rule_by : List Rule → ℕ → List ℕ → ℕ → ℕ
rule_by rules count table k = k + sum_at table (stage_at rules count k)

-- and of a clause, by the rule that owns it
abbrev pub clause_by : List Rule → List ℕ → ℕ → List ℕ → ℕ → ℕ
clause_by rules owners count table k = k + sum_at table (option_map_or (stage_at rules count) (slice_get owners k) (suc count))
