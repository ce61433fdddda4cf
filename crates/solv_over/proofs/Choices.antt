-- A guide's choices are the same where clauses stand beside others that say of what is left out that it is out.
use Rattle.std.proofs.Common.{◌≡◌, ℕ, zero, suc, ◌+◌, ◌-◌, ◌<◌, ◌≤◌, Bool, true, false, not, ◌&&◌, List, [], ◌∷◌, ◌++◌, length, take, map, Option, Some, None, inl, inr, refl, sym, ap, ◌∙◌, subst, arith, if◌then◌else◌}
use Rattle.std.specs.Prelude.{ℤ, pos, neg_ℤ, nat_lt}
use Rattle.std.specs.List.{list_all}
use Rattle.std.proofs.lemmas.Bool.{and_parts, and_from, cases_lt, ltb-true, false≢true}
use Rattle.solv_list.proofs.Booleans.{same_truth, false_of_not}
use Rattle.solv_pool.specs.Prelude.{is_fact, is_refuted, is_open, clashes, are_over}
use Rattle.solv_derive.proofs.Facts.{known_cases, all_member, all_same}
use Rattle.solv_trail.specs.Walk.{known_after, walk_within, walk, asserts, met_by_choices}
use Rattle.solv_over.specs.Inner.Widened.{says_in, says_out, says_neither, AreBeside, AreInside, AreWidened, IsWidened, AskAlike, ChoicesWiden}
use Rattle.solv_over.proofs.Literals.{neither_out, neither_neg}
use Rattle.solv_over.proofs.Widened.{propagation_widens}

-- of what says nothing of what is left out the same is known
module _ (left : ℕ → Bool) (A B : List ℤ) (w : AreWidened left A B) where
  pub same_fact : (l : ℤ) → (says_out left l ≡ true → ⊥) → is_fact B l ≡ is_fact A l
  same_fact l h = same_truth (is_fact B l) (is_fact A l) (λ k. elim (w.adds l k) [ inl a ↦ a | inr o ↦ absurd (h o) ]) (w.keeps l)

  pub same_neither : (l : ℤ) → says_neither left l ≡ true → is_fact B l ≡ is_fact A l
  same_neither l h = same_fact l (λ k. false≢true (sym (neither_out left l h) ∙ k))

  pub same_negated : (l : ℤ) → says_neither left l ≡ true → is_refuted B l ≡ is_refuted A l
  same_negated l h = same_fact (neg_ℤ l) (neither_neg left l h)

  pub asserts_same : (c : List ℤ) → list_all (says_neither left) c ≡ true → asserts B c ≡ asserts A c
  asserts_same [] h = refl
  asserts_same (l ∷ ls) h =
      let both = and_parts (says_neither left l) (list_all (says_neither left) ls) h in
      let rest : list_all (is_refuted B) ls ≡ list_all (is_refuted A) ls = all_same (is_refuted B) (is_refuted A) ls (λ m k. same_negated m (all_member (says_neither left) ls both.1 m k)) in
      ap (λ b. (not b && not (is_refuted B l)) && list_all (is_refuted B) ls) (same_neither l both.0)
      ∙ ap (λ b. (not (is_fact A l) && not b) && list_all (is_refuted B) ls) (same_negated l both.0)
      ∙ ap (λ b. is_open A l && b) rest

take_front : (xs ys : List ℕ) → take (length xs) (xs ++ ys) ≡ xs
take_front [] ys = refl
take_front (x ∷ xs) ys = ap (λ zs. x ∷ zs) (take_front xs ys)

append_assoc : (xs ys zs : List ℕ) → (xs ++ ys) ++ zs ≡ xs ++ (ys ++ zs)
append_assoc [] ys zs = refl
append_assoc (x ∷ xs) ys zs = ap (λ w. x ∷ w) (append_assoc xs ys zs)

length_one_more : (xs : List ℕ) (p : ℕ) → length (xs ++ p ∷ []) ≡ length xs + 1
length_one_more [] p = refl
length_one_more (x ∷ xs) p = let r = length_one_more xs p in omega (arith, r)

module _ (left : ℕ → Bool) where
  abbrev pub are_there : List ℕ → Bool
  are_there taken = list_all (λ p. not (left p)) taken

  pub starts_inside : (taken : List ℕ) → are_there taken ≡ true → AreInside left (map pos taken)
  starts_inside [] h = record { none = λ l k. absurd (false≢true k) }
  starts_inside (p ∷ taken) h =
      let both = and_parts (not (left p)) (are_there taken) h in
      record { none = λ l k. elim (known_cases (pos p) l (map pos taken) k) [ inl e ↦ ap (says_in left) e ∙ false_of_not (left p) both.0 | inr r ↦ (starts_inside taken both.1).none l r ] }

  one_more : (taken : List ℕ) (p : ℕ) → are_there taken ≡ true → left p ≡ false → are_there (taken ++ p ∷ []) ≡ true
  one_more [] p h k = and_from (not (left p)) true (ap not k) refl
  one_more (q ∷ taken) p h k = let both = and_parts (not (left q)) (are_there taken) h in and_from (not (left q)) (are_there (taken ++ p ∷ [])) both.0 (one_more taken p both.1 k)

  first_there : (k : ℕ) (taken : List ℕ) → are_there taken ≡ true → are_there (take k taken) ≡ true
  first_there zero taken h = refl
  first_there (suc k) [] h = refl
  first_there (suc k) (q ∷ taken) h = let both = and_parts (not (left q)) (are_there taken) h in and_from (not (left q)) (are_there (take k taken)) both.0 (first_there k taken both.1)

-- one walk
module _ (n : ℕ) (F : List (List ℤ)) (asks : (ℤ → Bool) → Option ℕ) where
  abbrev pub next : List ℕ → Option ℕ
  next taken = if clashes F (known_after n F asks taken) then None else asks (is_fact (known_after n F asks taken))

  next_some : (taken : List ℕ) (p : ℕ) → next taken ≡ Some p → (clashes F (known_after n F asks taken) ≡ false) × (asks (is_fact (known_after n F asks taken)) ≡ Some p)
  next_some taken p h = by (clashes F (known_after n F asks taken)) refl h
    where
      by : (b : Bool) → clashes F (known_after n F asks taken) ≡ b → (if b then None else asks (is_fact (known_after n F asks taken))) ≡ Some p
          → (clashes F (known_after n F asks taken) ≡ false) × (asks (is_fact (known_after n F asks taken)) ≡ Some p)
      by true e k = absurd (cc)
      by false e k = (e, k)

  abbrev go : ℕ → List ℕ → Option ℕ → List ℕ
  go k taken o = elim o [ None ↦ taken | Some p ↦ walk_within n F asks k (taken ++ p ∷ []) ]

  goes_on : (k : ℕ) (taken : List ℕ) (o : Option ℕ) → next taken ≡ o → walk_within n F asks (suc k) taken ≡ go k taken o
  goes_on k taken o e = ap (go k taken) e

  -- it goes on from where it is
  walk_front : (k : ℕ) (taken : List ℕ) → (rest : List ℕ) × (walk_within n F asks k taken ≡ taken ++ rest)
  walk_front zero taken = ([], nothing taken)
    where
      nothing : (xs : List ℕ) → xs ≡ xs ++ []
      nothing [] = refl
      nothing (x ∷ xs) = ap (λ w. x ∷ w) (nothing xs)
  walk_front (suc k) taken = by (next taken) refl (λ p. walk_front k (taken ++ p ∷ []))
    where
      nothing : (xs : List ℕ) → xs ≡ xs ++ []
      nothing [] = refl
      nothing (x ∷ xs) = ap (λ w. x ∷ w) (nothing xs)

      by : (o : Option ℕ) → next taken ≡ o → ((p : ℕ) → (rest : List ℕ) × (walk_within n F asks k (taken ++ p ∷ []) ≡ (taken ++ p ∷ []) ++ rest)) → (rest : List ℕ) × (walk_within n F asks (suc k) taken ≡ taken ++ rest)
      by None e h = ([], goes_on k taken None e ∙ nothing taken)
      by (Some p) e h = let r = h p in (p ∷ r.0, goes_on k taken (Some p) e ∙ r.1 ∙ append_assoc taken (p ∷ []) r.0)

  -- no choice but the last meets a conflict
  walk_free : (k : ℕ) (taken : List ℕ) (i : ℕ) → length taken ≤ i → i < length (walk_within n F asks k taken) → clashes F (known_after n F asks (take i (walk_within n F asks k taken))) ≡ false
  walk_free zero taken i low high = absurd (omega (arith, low, high))
  walk_free (suc k) taken i low high = by (next taken) refl (λ p. walk_free k (taken ++ p ∷ []) i)
    where
      by : (o : Option ℕ) → next taken ≡ o
          → ((p : ℕ) → length (taken ++ p ∷ []) ≤ i → i < length (walk_within n F asks k (taken ++ p ∷ [])) → clashes F (known_after n F asks (take i (walk_within n F asks k (taken ++ p ∷ [])))) ≡ false)
          → clashes F (known_after n F asks (take i (walk_within n F asks (suc k) taken))) ≡ false
      by None e h = let same = ap length (goes_on k taken None e) in absurd (omega (arith, same, low, high))
      by (Some p) e h =
          let is = goes_on k taken (Some p) e in
          let size = ap length is in
          let P : List ℕ → Type 0 = λ w. clashes F (known_after n F asks (take i w)) ≡ false in
          let Q : List ℕ → Type 0 = λ w. clashes F (known_after n F asks w) ≡ false in
          elim (cases_lt (length taken) i) [
            | inl lt ↦ let one = length_one_more taken p in subst P (sym is) (h p (omega (arith, one, lt)) (omega (arith, size, high)))
            | inr le ↦
                let at : i ≡ length taken = omega (arith, le, low) in
                let front = walk_front k (taken ++ p ∷ []) in
                let whole : walk_within n F asks (suc k) taken ≡ taken ++ p ∷ front.0 = is ∙ front.1 ∙ append_assoc taken (p ∷ []) front.0 in
                let here : take i (walk_within n F asks (suc k) taken) ≡ taken = ap (λ j. take j (walk_within n F asks (suc k) taken)) at ∙ ap (take (length taken)) whole ∙ take_front taken (p ∷ front.0) in
                subst Q (sym here) (next_some taken p e).0
          ]

module _ (n : ℕ) (left : ℕ → Bool) (C D : List (List ℤ)) (asks asks_all : (ℤ → Bool) → Option ℕ) (beside : AreBeside left C D) (over : are_over n D ≡ true) (alike : AskAlike left asks asks_all) where
  propagated : (taken : List ℕ) → are_there left taken ≡ true → IsWidened n left C D (map pos taken)
  propagated taken h = propagation_widens n left C D beside over (map pos taken) (starts_inside left taken h)

  next_same : (taken : List ℕ) → are_there left taken ≡ true → next n D asks_all taken ≡ next n C asks taken
  next_same taken h =
      let w = propagated taken h in
      ap (λ b. if b then None else asks_all (is_fact (known_after n D asks_all taken))) w.clash ∙ by (clashes C (known_after n C asks taken)) refl
    where
      by : (b : Bool) → clashes C (known_after n C asks taken) ≡ b → (if b then None else asks_all (is_fact (known_after n D asks_all taken))) ≡ (if b then None else asks (is_fact (known_after n C asks taken)))
      by true e = refl
      by false e = alike.same (known_after n C asks taken) (known_after n D asks_all taken) ((propagated taken h).known e)

  next_there : (taken : List ℕ) → are_there left taken ≡ true → (p : ℕ) → next n C asks taken ≡ Some p → left p ≡ false
  next_there taken h p e =
      let s = next_some n C asks taken p e in
      alike.inside (known_after n C asks taken) ((propagated taken h).known s.0).inside p s.1

  walk_same : (k : ℕ) (taken : List ℕ) → are_there left taken ≡ true → walk_within n D asks_all k taken ≡ walk_within n C asks k taken
  walk_same zero taken h = refl
  walk_same (suc k) taken h = goes_on n D asks_all k taken (next n C asks taken) (next_same taken h) ∙ by (next n C asks taken) refl (λ p. walk_same k (taken ++ p ∷ []))
    where
      by : (o : Option ℕ) → next n C asks taken ≡ o → ((p : ℕ) → are_there left (taken ++ p ∷ []) ≡ true → walk_within n D asks_all k (taken ++ p ∷ []) ≡ walk_within n C asks k (taken ++ p ∷ []))
          → go n D asks_all k taken o ≡ walk_within n C asks (suc k) taken
      by None e f = sym (goes_on n C asks k taken None e)
      by (Some p) e f = f p (one_more left taken p h (next_there taken h p e)) ∙ sym (goes_on n C asks k taken (Some p) e)

  walk_there : (k : ℕ) (taken : List ℕ) → are_there left taken ≡ true → are_there left (walk_within n C asks k taken) ≡ true
  walk_there zero taken h = h
  walk_there (suc k) taken h = by (next n C asks taken) refl (λ p. walk_there k (taken ++ p ∷ []))
    where
      T : List ℕ → Type 0
      T w = are_there left w ≡ true

      by : (o : Option ℕ) → next n C asks taken ≡ o → ((p : ℕ) → are_there left (taken ++ p ∷ []) ≡ true → are_there left (walk_within n C asks k (taken ++ p ∷ [])) ≡ true) → are_there left (walk_within n C asks (suc k) taken) ≡ true
      by None e f = subst (λ (w : List ℕ). are_there left w ≡ true) (sym (goes_on n C asks k taken None e)) h
      by (Some p) e f = subst (λ (w : List ℕ). are_there left w ≡ true) (sym (goes_on n C asks k taken (Some p) e)) (f p (one_more left taken p h (next_there taken h p e)))

  abbrev chosen : List ℕ
  chosen = walk n C asks

  chosen_there : are_there left chosen ≡ true
  chosen_there = walk_there n [] refl

  chosen_same : walk n D asks_all ≡ chosen
  chosen_same = walk_same n [] refl

  met_same : (c : List ℤ) → list_all (says_neither left) c ≡ true → met_by_choices n D asks_all c ≡ met_by_choices n C asks c
  met_same c h =
      ap (λ (taken : List ℕ). nat_lt 0 (length taken) && clashes D (known_after n D asks_all taken) && asserts (known_after n D asks_all (take (length taken - 1) taken)) c) chosen_same
      ∙ ap (λ b. nat_lt 0 (length chosen) && b && asserts (known_after n D asks_all (take (length chosen - 1) chosen)) c) (propagated chosen chosen_there).clash
      ∙ by (nat_lt 0 (length chosen)) refl
    where
      by : (b : Bool) → nat_lt 0 (length chosen) ≡ b
          → (b && clashes C (known_after n C asks chosen) && asserts (known_after n D asks_all (take (length chosen - 1) chosen)) c)
          ≡ (b && clashes C (known_after n C asks chosen) && asserts (known_after n C asks (take (length chosen - 1) chosen)) c)
      by false e = refl
      by true e =
          let some : 0 < length chosen = ltb-true 0 (length chosen) e in
          let before : List ℕ = take (length chosen - 1) chosen in
          let free : clashes C (known_after n C asks before) ≡ false = walk_free n C asks n [] (length chosen - 1) (omega arith) (omega (arith, some)) in
          let w = propagated before (first_there left (length chosen - 1) chosen chosen_there) in
          ap (λ b. clashes C (known_after n C asks chosen) && b) (asserts_same left (known_after n C asks before) (known_after n D asks_all before) (w.known free) c h)

pub choices_widen : ChoicesWiden
choices_widen n left C D asks asks_all beside over alike = record { choices = chosen_same n left C D asks asks_all beside over alike; met = met_same n left C D asks asks_all beside over alike }
