-- What was gone through is not gone through again.
use Rattle.std.proofs.Common.{◌≡◌, ℕ, ◌<◌, Bool, true, false, ◌||◌, List, [], ◌∷◌, length, inl, inr, refl, sym, ap, ◌∙◌, arith, eqb}
use Rattle.std.specs.List.{list_any}
use Rattle.std.proofs.lemmas.Bool.{false≢true, eqb-true}
use Rattle.solv_list.proofs.Booleans.{or_cases, or_false}
use Rattle.solv_clean.specs.Inner.Tables.{is_marked}
use Rattle.solv_clean.specs.Inner.Finding.{Finds, ArePassed}
use Rattle.solv_clean.proofs.Served.{marked_below}

module _ (asks : ℕ → ℕ → Bool) (may : List Bool) where
  -- nothing was gone through
  pub passed_none : (P M : List Bool) → ((x : ℕ) → is_marked P x ≡ false) → ArePassed asks may P M
  passed_none P M none x q h k a = absurd (false≢true (sym (none x) ∙ h))

  -- more is marked
  pub passed_on : (P M M' : List Bool) → ((q : ℕ) → is_marked M q ≡ true → is_marked M' q ≡ true) → ArePassed asks may P M → ArePassed asks may P M'
  passed_on P M M' keeps done x q h k a = keeps q (done x q h k a)

  -- one more is noted, for which all is marked
  pub passed_noted : (P P' M : List Bool) (x : ℕ) → length P' ≡ length P → ((y : ℕ) → y < length P → is_marked P' y ≡ (is_marked P y || eqb x y)) → ((q : ℕ) → is_marked may q ≡ true → list_any (λ y. asks y q) (x ∷ []) ≡ true → is_marked M q ≡ true)
      → ArePassed asks may P M → ArePassed asks may P' M
  passed_noted P P' M x size noted whole done y q h k a =
      let low : y < length P = omega (arith, marked_below P' y h, size) in
      elim (or_cases (is_marked P y) (eqb x y) (sym (noted y low) ∙ h)) [
        | inl e ↦ done y q e k a
        | inr e ↦ whole q k (or_false (asks x q) ∙ ap (λ z. asks z q) (eqb-true x y e) ∙ a)
      ]

  -- it has found all that it asks for
  pub finds_passed : (P M : List Bool) (F : List ℕ) (x : ℕ) → is_marked P x ≡ true → ArePassed asks may P M → Finds may asks (x ∷ []) M F M F
  finds_passed P M F x h done = record {
    size = refl;
    keeps = λ q k. k;
    longer = omega arith;
    before = λ k l. refl;
    sound = λ q k. inl k;
    whole = λ q k a. done x q h k (sym (or_false (asks x q)) ∙ a);
    listing = λ is. is;
  }
