-- That the rules which are not made would not pass a limit either.
use Rattle.std.specs.Prelude.{ℕ, ◌≡◌, ◌≤◌, ◌+◌, Bool, true, false, not, nat_lt, List, [], Option, Some, None, flat_map, length, sum_by, filter, if◌then◌else◌}
use Rattle.std.specs.Option.{option_map_or}
use Rattle.solv_pool.specs.Prelude.{passes, Catalog, packages, package_at, dependency, all_meeting, rule_clauses, words_of_all, hard_rules_by, marked}
use Rattle.solv_pool.specs.declared.jobs.Job.{Job}
use Rattle.solv_pool.specs.declared.job_marks.Marks.{Marks}
use Rattle.solv_pool.specs.declared.packages.Need.{Need}
use Rattle.solv_pool.specs.declared.packages.Package.{Package}
use Rattle.solv_pool.specs.declared.tasks.Flags.{Flags}
use Rattle.solv_rules.specs.Books.{first_fault, most_words}
use Rattle.solv_leaving.specs.Inner.Leaving.{leaving}
use Rattle.solv_leaving.specs.Inner.Starting.{is_met_alone}

-- so many words, where a book may have them
abbrev pub within : ℕ → Option ℕ
within n = if nat_lt most_words n then None else Some n

module _ (catalog : Catalog) where
  -- at least the words of the clause of a requirement that packages meet alone: it has the package, and each that meets the requirement
  abbrev pub need_words : Need → ℕ
  need_words need = 5 + length (all_meeting catalog None (dependency catalog need.dep))

  -- at least the words of the clauses of what a package requires, where packages meet it alone
  abbrev pub required_words : Package → ℕ
  required_words a = sum_by need_words a.requires_

  -- the same by its number, where it is left out
  abbrev pub words_at : List Bool → ℕ → ℕ
  words_at left p = if marked left p then option_map_or required_words (package_at catalog p) 0 else 0

  -- those of the packages that are left out
  abbrev pub words_left_out : List Bool → ℕ
  words_left_out left = sum_by (λ p. option_map_or required_words (package_at catalog p) 0) (filter (marked left) (packages catalog))

-- where the clauses of the rules that are made pass no limit, and at least the words of the others stand beside theirs, those of all rules pass none
abbrev pub AllFit : Type 0
AllFit = (catalog : Catalog) (flags : Flags) (jobs : List Job) (marks : Marks) (left : List Bool)
    → ((q : ℕ) → passes (package_at catalog q) (λ a. not (is_met_alone catalog a)) ≡ true → marked left q ≡ false)
    → first_fault catalog 0 (hard_rules_by catalog flags jobs (leaving marks left)) ≡ None
    → words_of_all (flat_map (rule_clauses catalog) (hard_rules_by catalog flags jobs (leaving marks left))) + words_left_out catalog left ≤ most_words
    → first_fault catalog 0 (hard_rules_by catalog flags jobs (leaving marks [])) ≡ None
