-- A package that is among those that meet its requirement.
use Rattle.std.proofs.Common.{◌≡◌, ℕ, zero, suc, pos, Bool, true, false, ◌||◌, List, [], ◌∷◌, map, Some, None, refl, sym, ap, ◌∙◌, rules}
use Rattle.std.specs.Prelude.{filter, ◌==◌, if◌then◌else◌, slice_get}
use Rattle.std.specs.List.{list_any}
use Rattle.std.specs.Ordering.{int_eq}
use Rattle.solv_pool.specs.Prelude.{Dep, and, or, joined, under, under_else, missing, package_wise, is_among, Catalog, members, package_meets, clause_count, dependency_clauses, guarded}
use Rattle.solv_rich.specs.Inner.Singles.{one_is_in, without}
use Rattle.solv_rich.proofs.SingleClauses.{clauses_are}
use Rattle.std.proofs.lemmas.Bool.{eq-eqb, eqb-true}
use Rattle.solv_list.proofs.Booleans.{same_truth}
use Rattle.std.proofs.lemmas.Bool.Decides.{nat_tests, Decides-int_eq}

-- two literals that packages are in are one where the packages are
in_tests : (p q : ℕ) → int_eq (pos p) (pos q) ≡ (q == p)
in_tests p q = same_truth (int_eq (pos p) (pos q)) (q == p)
    (λ h. let f : pos p ≡ pos q = (Decides-int_eq (pos p) (pos q)).0 h in let g : q ≡ p = cc in eq-eqb q p g)
    (λ h. (Decides-int_eq (pos p) (pos q)).1 (ap pos (sym (eqb-true q p h))))

-- its literal is then among those of the clause
among_ins : (qs : List ℕ) (p : ℕ) → list_any (int_eq (pos p)) (map pos qs) ≡ is_among qs p
among_ins [] p = refl
among_ins (q ∷ qs) p = rw (among_ins qs p) (ap (λ b. b || is_among qs p) (in_tests p q))

all_count : (qs : List ℕ) → without None qs ≡ qs
all_count [] = refl
all_count (q ∷ qs) = ap (λ t. q ∷ t) (all_count qs)

-- so it has no clause
none_guarded : (qs : List ℕ) (p : ℕ) → is_among qs p ≡ true → guarded p (one_is_in qs) ≡ []
none_guarded qs p h =
    (elim (is_among qs 0) as (λ b. guarded p (if b then [] else map pos qs ∷ []) ≡ []) [
      | true ↦ refl
      | false ↦ rw (among_ins qs p, h) refl
    ])

module _ (catalog : Catalog) where
  pub no_clause : (p : ℕ) (d : Dep ℕ) → package_wise d ≡ true → is_among (filter (package_meets catalog d) (members catalog)) p ≡ true → guarded p (dependency_clauses catalog None true d) ≡ []
  no_clause p d wise among = ap (λ cs. guarded p cs) (clauses_are catalog None true d wise ∙ ap one_is_in (all_count (filter (package_meets catalog d) (members catalog)))) ∙ none_guarded (filter (package_meets catalog d) (members catalog)) p among

  -- a package-wise requirement is one clause
  pub one_clause : (d : Dep ℕ) → package_wise d ≡ true → clause_count catalog None true d ≡ 1
  one_clause (joined and a b) w = cc
  one_clause (joined or a b) w = rw w refl
  one_clause (under k a b) w = cc
  one_clause (under_else k a b c) w = cc
  one_clause missing w = cc
  one_clause d w = refl
