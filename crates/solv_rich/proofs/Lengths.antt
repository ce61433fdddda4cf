-- How many clauses are joined, or crossed, or made of a relation.
use Rattle.std.proofs.Common.{◌≡◌, ℕ, ◌*◌, Bool, true, false, not, List, [], ◌∷◌, ◌++◌, length, map, Option, refl, ◌∙◌, arith, length-append}
use Rattle.std.proofs.lemmas.List.{length-map}
use Rattle.solv_pool.specs.Prelude.{Dep, Catalog, dependency, Clause, is_out, times, all_meeting, clauses_package_wise, clauses_of}
use Rattle.solv_rich.specs.Inner.Operators.{clauses_by, count_package_wise, count_by}
use Rattle.solv_rich.specs.declared.operators.Parts.{Parts}
use Rattle.solv_rich.specs.declared.operators.Parts.TheVariants.{Packages, Joined, Crossed, Chosen, Nothing}
use Rattle.solv_list.proofs.Numbers.{one_time_more}

pub length-times : (xs ys : List Clause) → length (times xs ys) ≡ length xs * length ys
length-times [] ys = grind arith
length-times (c ∷ xs) ys = length-append (map (λ d. c ++ d) ys) (times xs ys) ∙ rw (length-map ys (λ (d : Clause). c ++ d), length-times xs ys) (one_time_more (length xs) (length ys))

module _ (catalog : Catalog) (x : Option ℕ) where
  length-package_wise : (at : Bool) (d : Dep ℕ) → length (clauses_package_wise catalog x at d) ≡ count_package_wise catalog x at d
  length-package_wise true d = refl
  length-package_wise false d = length-map (all_meeting catalog x d) (λ (q : ℕ). is_out q ∷ [])

  abbrev made : Bool → ℕ → List Clause
  made at d = clauses_of catalog x at (dependency catalog d)

  pub length-clauses_by : (at : Bool) (d : ℕ) (parts : Parts) → length (clauses_by catalog x at d parts) ≡ count_by catalog x at d parts
  length-clauses_by at d Packages = length-package_wise at (dependency catalog d)
  length-clauses_by at d (Joined a b) = length-append (made at a) (made at b)
  length-clauses_by at d (Crossed a b other) = length-times (made at a) (made other b)
  length-clauses_by at d (Chosen a b c) =
      length-append (times (made at a) (made (not at) b)) (times (made at c) (made at b)) ∙ rw (length-times (made at a) (made (not at) b), length-times (made at c) (made at b)) refl
  length-clauses_by at d Nothing = refl
