-- The clauses of what a package requires that is left out: packages meet it alone, so that it has one, unless the package itself or the system meets it.
use Rattle.std.proofs.Common.{◌≡◌, ℕ, Bool, true, false, not, ◌&&◌, ◌||◌, cond, List, [], ◌∷◌, map, length, None, refl, sym, ap, ◌∙◌, if◌then◌else◌}
use Rattle.std.specs.Prelude.{◌==◌}
use Rattle.std.specs.List.{list_any}
use Rattle.std.proofs.lemmas.Bool.{false≢true, eq-eqb, eqb-true, false_from_ne_true}
use Rattle.solv_pool.specs.Prelude.{Dep, and, or, joined, under, under_else, missing, package_wise, Catalog, dependency, Clause, is_in, is_out, same_literal, negation, contains_literal, is_always_true, shortened, kept, in_numbers, with_package, clauses_package_wise, clauses_of, rule_clauses, req}
use Rattle.solv_prov.specs.Index.{providers_of}
use Rattle.solv_over.specs.Inner.Sums.{are_others, gives_clause}

-- p is out, or one of these is in
abbrev pub said : ℕ → List ℕ → Clause
said p qs = is_out p ∷ map is_in qs

-- none of these is said to be out
none_out : (q : ℕ) (qs : List ℕ) → list_any (λ l. same_literal (is_out q) l) (map is_in qs) ≡ false
none_out q [] = refl
none_out q (r ∷ qs) = none_out q qs

-- the system is one of them, or p
abbrev always_by : ℕ → List ℕ → Bool
always_by p qs = list_any (λ q. q == 0 || q == p) qs

eqb_turned : (p q : ℕ) → (p == q) ≡ (q == p)
eqb_turned p q = by (p == q) refl
  where
    by : (b : Bool) → (p == q) ≡ b → b ≡ (q == p)
    by true e = sym (eq-eqb q p (sym (eqb-true p q e)))
    by false e = sym (false_from_ne_true (q == p) (λ h. absurd (false≢true (sym e ∙ eq-eqb p q (sym (eqb-true q p h))))))

-- a literal that p is in says no more than that
own_in : (p : ℕ) (qs : List ℕ) → (list_any (λ l. same_literal (is_in p) l) (map is_in qs) || always_by p qs) ≡ always_by p qs
own_in p [] = refl
own_in p (q ∷ qs) = by (p == q) (q == 0) (q == p) (list_any (λ l. same_literal (is_in p) l) (map is_in qs)) (always_by p qs) (eqb_turned p q) (own_in p qs)
  where
    by : (a z b f r : Bool) → a ≡ b → (f || r) ≡ r → ((a || f) || ((z || b) || r)) ≡ ((z || b) || r)
    by true true true f r e h = refl
    by true false true f r e h = refl
    by true z false f r e h = absurd (false≢true (sym e))
    by false z true f r e h = absurd (false≢true e)
    by false true false true r e h = refl
    by false true false false r e h = refl
    by false false false f r e h = h

rest_in : (p : ℕ) (all qs : List ℕ) → list_any (λ l. same_literal (is_in 0) l || contains_literal (said p all) (negation l)) (map is_in qs) ≡ always_by p qs
rest_in p all [] = refl
rest_in p all (q ∷ qs) =
    ap (λ b. (b || ((q == p) || list_any (λ l. same_literal (is_out q) l) (map is_in all))) || list_any (λ l. same_literal (is_in 0) l || contains_literal (said p all) (negation l)) (map is_in qs)) (eqb_turned 0 q)
    ∙ ap (λ b. ((q == 0) || ((q == p) || b)) || list_any (λ l. same_literal (is_in 0) l || contains_literal (said p all) (negation l)) (map is_in qs)) (none_out q all)
    ∙ ap (λ b. ((q == 0) || b) || list_any (λ l. same_literal (is_in 0) l || contains_literal (said p all) (negation l)) (map is_in qs)) (or_none (q == p))
    ∙ ap (λ b. ((q == 0) || (q == p)) || b) (rest_in p all qs)
  where
    or_none : (b : Bool) → (b || false) ≡ b
    or_none true = refl
    or_none false = refl

-- such a clause is always true where the system meets the requirement, or p itself
always : (p : ℕ) (qs : List ℕ) → is_always_true (said p qs) ≡ always_by p qs
always p qs = ap (λ b. list_any (λ l. same_literal (is_in p) l) (map is_in qs) || b) (rest_in p qs qs) ∙ own_in p qs

others : (p : ℕ) (qs : List ℕ) → not (always_by p qs) ≡ are_others p qs
others p [] = refl
others p (q ∷ qs) = by (q == 0 || q == p) (others p qs)
  where
    by : (b : Bool) → not (always_by p qs) ≡ are_others p qs → not (b || always_by p qs) ≡ (not b && are_others p qs)
    by true h = refl
    by false h = h

module _ (catalog : Catalog) where
  -- one clause says that a package-wise dependency holds
  clauses_alone : (d : Dep ℕ) → package_wise d ≡ true → clauses_of catalog None true d ≡ clauses_package_wise catalog None true d
  clauses_alone (joined and a b) h = absurd (false≢true h)
  clauses_alone (joined or a b) h = rw h refl
  clauses_alone (under k a b) h = absurd (false≢true h)
  clauses_alone (under_else k a b c) h = absurd (false≢true h)
  clauses_alone missing h = absurd (false≢true h)
  clauses_alone d h = refl

  pub requirement_clauses : (p d : ℕ) → package_wise (dependency catalog d) ≡ true → length (rule_clauses catalog (req p d)) ≡ (if gives_clause catalog p d then 1 else 0)
  requirement_clauses p d h =
      ap (λ (cs : List Clause). length (in_numbers (kept (with_package p cs)))) (clauses_alone (dependency catalog d) h)
      ∙ ap (λ b. length (in_numbers (map shortened (cond b (said p (providers_of catalog d) ∷ []) [])))) (ap not (always p (providers_of catalog d)) ∙ others p (providers_of catalog d))
      ∙ so_many_of (gives_clause catalog p d) (said p (providers_of catalog d))
    where
      so_many_of : (b : Bool) (c : Clause) → length (in_numbers (map shortened (cond b (c ∷ []) []))) ≡ (if b then 1 else 0)
      so_many_of true c = refl
      so_many_of false c = refl
