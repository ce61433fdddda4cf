-- What is known once all decisions are undone.
use Rattle.std.proofs.Common.{◌≡◌, ℕ, zero, suc, ◌<◌, ◌+◌, ◌^◌, Bool, true, List, [], ◌∷◌, ◌++◌, length, take, get_or, inl, inr, refl, sym, ap, ◌∙◌, subst, arith}
use Rattle.std.specs.Prelude.{ℤ, pos}
use Rattle.std.proofs.lemmas.Bool.{and_from, cases_lt}
use Rattle.std.proofs.lemmas.List.{take-take, get_or-take, length-map}
use Rattle.std.proofs.lemmas.List.Folds.{list_all-append}
use Rattle.solv_pool.specs.Prelude.{is_over, are_over}
use Rattle.solv_derive.specs.declared.logs.Step.{Step}
use Rattle.solv_trail.specs.Inner.Held.{Held}
use Rattle.solv_trail.specs.Inner.Propagated.{IsUsed, choice, by_rule, IsReasoned}
use Rattle.solv_trail.specs.Propagated.{in_use}
use Rattle.solv_core.specs.Inner.Holding.{AreEntries, AreInUse, entry_of}
use Rattle.solv_core.specs.Inner.Probing.{IsFounded}
use Rattle.solv_core.specs.declared.ledger.Entry.{Entry}
use Rattle.solv_core.proofs.Answering.{derived_over}
use Rattle.solv_core.proofs.Contradicted.{nothing_in_use}

taken_short : {A : Type 0} (m : ℕ) (xs : List A) (j : ℕ) → j < length (take m xs) → (j < m) × (j < length xs)
taken_short zero xs j h = absurd (omega (arith, h))
taken_short (suc m) [] j h = absurd (omega (arith, h))
taken_short (suc m) (x ∷ xs) zero h = (omega arith, omega arith)
taken_short (suc m) (x ∷ xs) (suc j) h =
    let r = taken_short m xs j (omega (arith, h)) in
    (omega (arith, r.0), omega (arith, r.1))

with_none : {A : Type 0} (xs : List A) → xs ≡ xs ++ []
with_none [] = refl
with_none (x ∷ xs) = ap (λ v. x ∷ v) (with_none xs)

taken_alike : {A B : Type 0} (m : ℕ) (xs : List A) (ys : List B) → length xs ≡ length ys → length (take m xs) ≡ length (take m ys)
taken_alike zero xs ys h = refl
taken_alike (suc m) [] [] h = refl
taken_alike (suc m) [] (y ∷ ys) h = absurd (omega (arith, h))
taken_alike (suc m) (x ∷ xs) [] h = absurd (omega (arith, h))
taken_alike (suc m) (x ∷ xs) (y ∷ ys) h = ap suc (taken_alike m xs ys (omega (arith, h)))

pub none_of_none : (xs : List ℕ) → length xs ≡ 0 → xs ≡ []
none_of_none [] h = refl
none_of_none (x ∷ xs) h = absurd (omega (arith, h))

-- what stands before the first choice has its reasons still
pub reasoned_front : (rules : List (List ℤ)) (used : ℕ → Bool) (held : Held) → ((i k : ℕ) → i < k → k < length held.marks → get_or held.marks i 0 < get_or held.marks k 0) → IsReasoned rules used held
    → IsReasoned rules used (record held { lits = take (get_or held.marks 0 0) held.lits; reasons = take (get_or held.marks 0 0) held.reasons; marks = take 0 held.marks; questions = take 0 held.questions })
reasoned_front rules used held rising h =
    let e : ℕ = get_or held.marks 0 0 in
    record {
      sizes = taken_alike e held.reasons held.lits h.sizes;
      each = λ j less.
          let short = taken_short e held.lits j less in
          let below : j < e = short.0 in
          let t : take j (take e held.lits) ≡ take j held.lits = take-take j e held.lits (omega arith) in
          let g : get_or (take e held.lits) j (pos 0) ≡ get_or held.lits j (pos 0) = get_or-take e held.lits j (pos 0) below in
          let r : get_or (take e held.reasons) j 0 ≡ get_or held.reasons j 0 = get_or-take e held.reasons j 0 below in
          elim (h.each j short.1) [
            | choice k few at ↦ absurd (not_before k few at below)
            | by_rule c u f ↦ by_rule c (let P : ℕ → Type 0 = λ n. IsUsed rules used n c in subst P (sym r) u) (rw (t, g) f)
          ];
    }
  where
    not_before : {j : ℕ} (k : ℕ) → k < length held.marks → get_or held.marks k 0 ≡ j → j < get_or held.marks 0 0 → ⊥
    not_before k few at below = elim (cases_lt 0 k) [
      | inl some ↦ let up : get_or held.marks 0 0 < get_or held.marks k 0 = rising 0 k some few in omega (arith, up, at, below)
      | inr none ↦ let z : k ≡ 0 = omega (arith, none) in let q : get_or held.marks k 0 ≡ get_or held.marks 0 0 = ap (λ v. get_or held.marks v 0) z in omega (arith, q, at, below)
    ]

module _ (book : List (List ℤ)) (owners : List ℕ) (enabled : List Bool) (learnt : List (List ℤ)) (kept : List ℕ) (first : ℕ) (entries : List Entry) where
  pub founded_front : (old new : Held) → new.count ≡ old.count → ((rules : List (List ℤ)) (used : ℕ → Bool) → IsReasoned rules used old → IsReasoned rules used new)
      → IsFounded book owners enabled old learnt kept first entries → IsFounded book owners enabled new learnt kept first entries
  founded_front old new same still h =
      let P : ℕ → Type 0 = λ n. AreInUse book (in_use owners enabled) n entries (entry_of kept first) learnt h.steps in
      record { small = h.small; reasoned = still (book ++ learnt) (in_use owners enabled) h.reasoned; steps = h.steps; derived = subst P (sym same) h.derived }

  -- where nothing is learnt
  pub founded_alone : (known : Held) → learnt ≡ [] → first < 2 ^ 32 → IsReasoned book (in_use owners enabled) known → IsFounded book owners enabled known learnt kept first entries
  founded_alone known none small reasoned =
      let P : List (List ℤ) → Type 0 = λ v. IsReasoned v (in_use owners enabled) known in
      let Q : List (List ℤ) → Type 0 = λ v. AreInUse book (in_use owners enabled) known.count entries (entry_of kept first) v [] in
      record {
        small = small;
        reasoned = subst P (with_none book ∙ ap (λ v. book ++ v) (sym none)) reasoned;
        steps = [];
        derived = subst Q (sym none) (nothing_in_use book (in_use owners enabled) known.count entries (entry_of kept first));
      }

  pub founded_over : (known : Held) → are_over known.count book ≡ true → IsFounded book owners enabled known learnt kept first entries → are_over known.count (book ++ learnt) ≡ true
  founded_over known over h =
      list_all-append (is_over known.count) book learnt
      ∙ and_from (are_over known.count book) (are_over known.count learnt) over (derived_over book known.count learnt h.steps h.derived.derived)

  pub founded_steps : (known : Held) → IsFounded book owners enabled known learnt kept first entries → (steps : List Step) × (AreEntries entries (entry_of kept first) steps × (length steps ≡ length learnt))
  founded_steps known h = (h.steps, (h.derived.held, sym (ap length h.derived.derived.are ∙ length-map h.steps (λ s. s.clause))))
