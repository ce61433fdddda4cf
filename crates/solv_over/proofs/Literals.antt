-- What literals say of what is left out.
use Rattle.std.proofs.Common.{◌≡◌, ◌⊎◌, ℕ, zero, suc, Bool, true, false, not, List, [], ◌∷◌, ◌++◌, refl, sym, ◌∙◌}
use Rattle.std.specs.Prelude.{ℤ, pos, negsuc, neg_ℤ}
use Rattle.std.specs.Ordering.{int_eq}
use Rattle.std.proofs.lemmas.Bool.{and_parts, false≢true, or_left, or_right, or_cases}
use Rattle.std.proofs.lemmas.List.Folds.{list_any-append}
use Rattle.solv_list.proofs.Booleans.{false_of_not}
use Rattle.solv_pool.specs.Prelude.{is_fact}
use Rattle.solv_trail.specs.Inner.Derivation.{Among, here, there}
use Rattle.solv_over.specs.Inner.Widened.{says_in, says_out, says_neither}

module _ (left : ℕ → Bool) where
  pub not_in : (l : ℤ) → says_out left l ≡ true → says_in left l ≡ false
  not_in (pos p) h = absurd (false≢true h)
  not_in (negsuc k) h = refl

  -- the negation of what says that it is out says that it is in
  pub out_neg : (l : ℤ) → says_out left l ≡ true → says_in left (neg_ℤ l) ≡ true
  out_neg (pos p) h = absurd (false≢true h)
  out_neg (negsuc k) h = h

  pub neg_out : (l : ℤ) → says_out left (neg_ℤ l) ≡ true → says_in left l ≡ true
  neg_out (pos zero) h = absurd (false≢true h)
  neg_out (pos (suc k)) h = h
  neg_out (negsuc k) h = absurd (false≢true h)

  pub not_both_out : (l : ℤ) → says_out left l ≡ true → says_out left (neg_ℤ l) ≡ true → ⊥
  not_both_out (pos p) h k = false≢true h
  not_both_out (negsuc n) h k = false≢true k

  pub neither_in : (l : ℤ) → says_neither left l ≡ true → says_in left l ≡ false
  neither_in l h = false_of_not (says_in left l) (and_parts (not (says_in left l)) (not (says_out left l)) h).0

  pub neither_out : (l : ℤ) → says_neither left l ≡ true → says_out left l ≡ false
  neither_out l h = false_of_not (says_out left l) (and_parts (not (says_in left l)) (not (says_out left l)) h).1

  pub neither_neg : (l : ℤ) → says_neither left l ≡ true → says_out left (neg_ℤ l) ≡ true → ⊥
  neither_neg l h k = false≢true (sym (neither_in l h) ∙ neg_out l k)

-- the literals of clauses
abbrev pub gathered : List (List ℤ) → List ℤ
gathered [] = []
gathered (c ∷ F) = c ++ gathered F

pub known_front : (A B : List ℤ) (l : ℤ) → is_fact A l ≡ true → is_fact (A ++ B) l ≡ true
known_front A B l h = list_any-append (int_eq l) A B ∙ or_left (is_fact A l) (is_fact B l) h

pub known_back : (A B : List ℤ) (l : ℤ) → is_fact B l ≡ true → is_fact (A ++ B) l ≡ true
known_back A B l h = list_any-append (int_eq l) A B ∙ or_right (is_fact A l) (is_fact B l) h

pub known_parts : (A B : List ℤ) (l : ℤ) → is_fact (A ++ B) l ≡ true → (is_fact A l ≡ true) ⊎ (is_fact B l ≡ true)
known_parts A B l h = or_cases (is_fact A l) (is_fact B l) (sym (list_any-append (int_eq l) A B) ∙ h)

pub gathered_has : {c : List ℤ} {F : List (List ℤ)} → Among c F → (l : ℤ) → is_fact c l ≡ true → is_fact (gathered F) l ≡ true
gathered_has {c} (here {F}) l h = known_front c (gathered F) l h
gathered_has {c} (there {d} {F} a) l h = known_back d (gathered F) l (gathered_has a l h)
