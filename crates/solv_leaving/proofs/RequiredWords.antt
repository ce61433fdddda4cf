-- What a package requires, where packages meet it alone, gives one clause for each requirement, and none is too rich.
use Rattle.std.proofs.Common.{◌≡◌, ◌≤◌, ◌+◌, ℕ, Bool, true, false, cond, List, [], ◌∷◌, map, length, None, refl, ap, ◌∙◌, arith}
use Rattle.std.specs.Prelude.{filter}
use Rattle.std.specs.List.{list_all}
use Rattle.std.proofs.lemmas.Bool.{false≢true}
use Rattle.std.proofs.lemmas.List.{length-map}
use Rattle.solv_pool.specs.Prelude.{Dep, and, or, joined, under, under_else, missing, package_wise, Catalog, dependency, Clause, is_in, with_package, all_meeting, clauses_package_wise, clauses_of, clause_count, shape_clauses, HardRule, req, shape_of}
use Rattle.solv_list.proofs.Booleans.{first_of_both, second_of_both}
use Rattle.solv_pool.specs.declared.packages.Need.{Need}
use Rattle.solv_rules.specs.Books.{rich_by, rich_fault}
use Rattle.solv_leaving.proofs.ClauseWords.{raw_words, size, size_made}
use Rattle.solv_leaving.proofs.Totals.{total}

module _ (catalog : Catalog) where
  -- one clause says that a package-wise dependency holds
  clauses_alone : (d : Dep ℕ) → package_wise d ≡ true → clauses_of catalog None true d ≡ clauses_package_wise catalog None true d
  clauses_alone (joined and a b) h = absurd (false≢true h)
  clauses_alone (joined or a b) h = rw h refl
  clauses_alone (under k a b) h = absurd (false≢true h)
  clauses_alone (under_else k a b c) h = absurd (false≢true h)
  clauses_alone missing h = absurd (false≢true h)
  clauses_alone d h = refl

  count_alone : (d : Dep ℕ) → package_wise d ≡ true → clause_count catalog None true d ≡ 1
  count_alone d h = ap length (clauses_alone d h)

  -- the clause has the package, and each that meets the requirement
  pub words_alone : (p d : ℕ) → package_wise (dependency catalog d) ≡ true → size catalog (req p d) ≤ 5 + length (all_meeting catalog None (dependency catalog d))
  words_alone p d h =
      let made = size_made catalog (req p d) in
      let raw : total raw_words (shape_clauses catalog (shape_of (req p d))) ≡ length (map is_in (all_meeting catalog None (dependency catalog d))) + 5 =
      ap (λ (cs : List Clause). total raw_words (with_package p cs)) (clauses_alone (dependency catalog d) h) ∙ omega arith in
      let each = length-map (all_meeting catalog None (dependency catalog d)) is_in in
      omega (arith, made, raw, each)

  pub not_rich_alone : (p d : ℕ) → package_wise (dependency catalog d) ≡ true → rich_fault catalog (shape_of (req p d)) ≡ None
  not_rich_alone p d h = ap (λ (n : ℕ). rich_by p d n) (count_alone (dependency catalog d) h)

-- the weights of rules that some of the requirements give are at most what all of them are given
pub fewer_required : (w : HardRule → ℕ) (most : Need → ℕ) (p : ℕ) (counts wise : Need → Bool) (needs : List Need) → ((need : Need) → wise need ≡ true → w (req p need.dep) ≤ most need) → list_all wise needs ≡ true
    → total w (map (λ need. req p need.dep) (filter counts needs)) ≤ total most needs
fewer_required w most p counts wise [] each h = omega arith
fewer_required w most p counts wise (need ∷ needs) each h =
    step (counts need) (each need (first_of_both (wise need) (list_all wise needs) h)) (fewer_required w most p counts wise needs each (second_of_both (wise need) (list_all wise needs) h))
  where
    step : (b : Bool) → w (req p need.dep) ≤ most need → total w (map (λ need. req p need.dep) (filter counts needs)) ≤ total most needs
        → total w (map (λ need. req p need.dep) (cond b (need ∷ filter counts needs) (filter counts needs))) ≤ total most (need ∷ needs)
    step true here rest = omega (arith, here, rest)
    step false here rest = omega (arith, rest)
