-- Unit propagation in another order of rounds: a new round outside.
use Rattle.std.proofs.Common.{◌≡◌, ℕ, zero, suc, List, [], ◌∷◌, Option, Some, None, refl, ap, ◌∙◌, inl, inr, filter}
use Rattle.std.specs.Prelude.{ℤ}
use Rattle.std.proofs.lemmas.Bool.{cases_Bool}
use Rattle.solv_pool.specs.Propagation as defined
use Rattle.solv_pool.specs.Prelude.{is_open, facts_after, only}
use Rattle.solv_pool.specs.Inner.Propagation.{with_single, round as round_of}
use Rattle.solv_derive.specs.Forced.{forced}
use Rattle.solv_derive.specs.Inner.Forced.{is_satisfied}

abbrev pub grown : Option ℤ → List ℤ → List ℤ
grown None facts = facts
grown (Some l) facts = l ∷ facts

-- with the literal that a clause forces
abbrev pub settled : List ℤ → List ℤ → List ℤ
settled facts c = grown (forced facts c) facts

abbrev pub round : List (List ℤ) → List ℤ → List ℤ
round [] facts = facts
round (c ∷ clauses) facts = round clauses (settled facts c)

abbrev pub rounds : ℕ → List (List ℤ) → List ℤ → List ℤ
rounds zero clauses facts = facts
rounds (suc k) clauses facts = round clauses (rounds k clauses facts)

-- what a clause gives is what it forces
after_only : (facts opens : List ℤ) → with_single facts opens ≡ grown (only opens) facts
after_only facts [] = refl
after_only facts (l ∷ []) = refl
after_only facts (l ∷ m ∷ ls) = refl

after_is : (facts c : List ℤ) → facts_after facts c ≡ settled facts c
after_is facts c = elim (cases_Bool (is_satisfied facts c)) [
  | inl t ↦ rw t refl
  | inr f ↦ rw f (after_only facts (filter (is_open facts) c))
]

round_is : (clauses : List (List ℤ)) (facts : List ℤ) → round_of clauses facts ≡ round clauses facts
round_is [] facts = refl
round_is (c ∷ clauses) facts = ap (round_of clauses) (after_is facts c) ∙ round_is clauses (settled facts c)

rounds_out : (k : ℕ) (clauses : List (List ℤ)) (facts : List ℤ) → rounds k clauses (round clauses facts) ≡ round clauses (rounds k clauses facts)
rounds_out zero clauses facts = refl
rounds_out (suc k) clauses facts = ap (round clauses) (rounds_out k clauses facts)

pub rounds_are : (k : ℕ) (clauses : List (List ℤ)) (facts : List ℤ) → defined.rounds k clauses facts ≡ rounds k clauses facts
rounds_are zero clauses facts = refl
rounds_are (suc k) clauses facts =
    ap (defined.rounds k clauses) (round_is clauses facts) ∙ rounds_are k clauses (round clauses facts) ∙ rounds_out k clauses facts
