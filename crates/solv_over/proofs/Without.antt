-- Sets without what is left out.
use Rattle.std.proofs.Common.{◌≡◌, ℕ, suc, Bool, true, false, not, ◌&&◌, ◌||◌, List, [], ◌∷◌, inl, inr, refl, sym, ap, ◌∙◌, cond}
use Rattle.std.specs.Prelude.{ℤ, pos, negsuc, ◌==◌}
use Rattle.std.specs.List.{list_all}
use Rattle.std.specs.Ordering.{int_eq}
use Rattle.std.proofs.lemmas.Bool.{cases_Bool, false≢true}
use mathlib.Core.Path.{fun_ext}
use Rattle.solv_list.proofs.Booleans.{and_true, and_false}
use Rattle.solv_pool.specs.Prelude.{literal_true, clause_true, is_fact}
use Rattle.solv_pool.proofs.Members.{all_at, all_by}
use Rattle.solv_derive.proofs.Facts as fact
use Rattle.solv_trail.specs.Inner.Derivation.{Among}
use Rattle.solv_trail.specs.Asked.{set_of}
use Rattle.solv_core.specs.GoodTrails.{literal_of, facts_of}
use Rattle.solv_core.specs.declared.verdicts.Event.{Event}
use Rattle.solv_over.specs.Inner.Widened.{says_out, says_neither, AreBeside}
use Rattle.solv_over.specs.Inner.Trails.{of_inside}
use Rattle.solv_over.proofs.Literals.{neither_in, neither_out}
use Rattle.solv_over.proofs.Numbered.{has_among}

module _ (left : ℕ → Bool) where
  -- the packages that are known in are the same
  in_inside : (events : List Event) (p : ℕ) → is_fact (facts_of (of_inside left events)) (pos p) ≡ is_fact (facts_of events) (pos p)
  in_inside [] p = refl
  in_inside (e ∷ events) p = by (literal_of e) refl (in_inside events p)
    where
      stays_in : says_out left (literal_of e) ≡ false → is_fact (facts_of (of_inside left events)) (pos p) ≡ is_fact (facts_of events) (pos p)
          → is_fact (facts_of (of_inside left (e ∷ events))) (pos p) ≡ is_fact (facts_of (e ∷ events)) (pos p)
      stays_in f rest = ap (λ b. is_fact (facts_of (cond (not b) (e ∷ of_inside left events) (of_inside left events))) (pos p)) f ∙ ap (λ b. int_eq (pos p) (literal_of e) || b) rest

      by : (l : ℤ) → literal_of e ≡ l → is_fact (facts_of (of_inside left events)) (pos p) ≡ is_fact (facts_of events) (pos p)
          → is_fact (facts_of (of_inside left (e ∷ events))) (pos p) ≡ is_fact (facts_of (e ∷ events)) (pos p)
      by (pos k) s rest = stays_in (ap (says_out left) s) rest
      by (negsuc k) s rest = elim (cases_Bool (says_out left (literal_of e))) [
        | inl t ↦
            ap (λ b. is_fact (facts_of (cond (not b) (e ∷ of_inside left events) (of_inside left events))) (pos p)) t ∙ rest
            ∙ sym (ap (λ l. int_eq (pos p) l || is_fact (facts_of events) (pos p)) s)
        | inr f ↦ stays_in f rest
      ]

  pub set_same : (events more : List Event) → of_inside left more ≡ of_inside left events → set_of (is_fact (facts_of more)) ≡ set_of (is_fact (facts_of events))
  set_same events more h = fun_ext (λ p. ap (λ b. (p == 0) || b) (sym (in_inside more p) ∙ ap (λ v. is_fact (facts_of v) (pos p)) h ∙ in_inside events p))

  module _ (set : ℕ → Bool) where
    abbrev pub without : ℕ → Bool
    without p = set p && not (left p)

    same_literal : (l : ℤ) → says_neither left l ≡ true → literal_true without l ≡ literal_true set l
    same_literal (pos p) h = by (left p) (neither_in left (pos p) h)
      where
        by : (b : Bool) → b ≡ false → (set p && not b) ≡ set p
        by true k = absurd (false≢true (sym k))
        by false k = and_true (set p)
    same_literal (negsuc k) h = ap not (by (left (suc k)) (neither_out left (negsuc k) h))
      where
        by : (b : Bool) → b ≡ false → (set (suc k) && not b) ≡ set (suc k)
        by true e = absurd (false≢true (sym e))
        by false e = and_true (set (suc k))

    out_true : (l : ℤ) → says_out left l ≡ true → literal_true without l ≡ true
    out_true (pos p) h = absurd (false≢true h)
    out_true (negsuc k) h = ap (λ b. not (set (suc k) && not b)) h ∙ ap not (and_false (set (suc k)))

    -- a clause that stands beside others and is true in a set is true in it without what is left out
    pub clause_without : (made all : List (List ℤ)) → AreBeside left made all → (c : List ℤ) → Among c made → clause_true set c ≡ true → clause_true without c ≡ true
    clause_without made all beside c a h = elim (beside.each c (beside.wider c a)) [
      | inl o ↦ let m = fact.any_member (says_out left) c o in fact.any_at (literal_true without) c m.0 m.1 (out_true m.0 m.2)
      | inr k ↦ fact.any_same (literal_true without) (literal_true set) c (λ l m. same_literal l (fact.all_member (says_neither left) c k.1 l m)) ∙ h
    ]

    pub clauses_without : (made all : List (List ℤ)) → AreBeside left made all → list_all (clause_true set) made ≡ true → list_all (clause_true without) made ≡ true
    clauses_without made all beside h = all_by (clause_true without) made (λ c k. clause_without made all beside c (has_among made c k) (all_at (clause_true set) made c h k))
