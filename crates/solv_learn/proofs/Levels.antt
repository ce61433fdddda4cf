-- The greatest place of what refutes the literals of a clause.
use Rattle.std.proofs.Common.{◌≡◌, ℕ, ◌+◌, ◌<◌, ◌≤◌, true, false, List, [], ◌∷◌, ◌++◌, length, take, get_or, inl, inr, refl, sym, ap, ◌∙◌, arith, max}
use Rattle.std.specs.Prelude.{ℤ, pos, neg_ℤ, nat_lt}
use Rattle.std.proofs.lemmas.Bool.{cases_lt, false≢true, lt-ltb, ltb-true, false_from_ne_true}
use Rattle.std.proofs.lemmas.List.{take_more}
use Rattle.solv_pool.specs.Prelude.{is_fact, is_refuted}
use Rattle.solv_trail.proofs.Walk.{known_at}
use Rattle.solv_learn.proofs.Collected.{one_of}
use Rattle.std.proofs.lemmas.List.Folds.{list_any-append}
use Rattle.std.proofs.lemmas.Bool.{or_cases}
use Rattle.std.specs.Ordering.{int_eq}

-- so far: the literals before i, and the greatest place h
pub record IsHighest (T clause : List ℤ) (i h : ℕ) : Type 0 where
  pub upper : (x : ℤ) → is_fact (take i clause) x ≡ true → (e : ℕ) → h < e → is_refuted (take e T) x ≡ true
  pub start : i ≡ 0 → h ≡ 0
  pub reached : 0 < i → (x : ℤ) × ((is_fact clause x ≡ true) × ((e : ℕ) → e ≤ h → is_refuted (take e T) x ≡ false))

pub highest_none : (T clause : List ℤ) → IsHighest T clause 0 0
highest_none T clause = record { upper = λ x k. absurd (false≢true k); start = λ e. refl; reached = λ h. absurd (omega arith) }

pub highest_next : (T clause : List ℤ) (i h p : ℕ) → i < length clause → ((e : ℕ) → is_fact (take e T) (neg_ℤ (get_or clause i (pos 0))) ≡ nat_lt p e) → IsHighest T clause i h → IsHighest T clause (i + 1) (max p h)
highest_next T clause i h p small before so_far =
    let x : ℤ = get_or clause i (pos 0) in
    let e : take (i + 1) clause ≡ take i clause ++ x ∷ [] = take_more clause i (pos 0) small in
    record {
      upper = λ y k f above. elim (or_cases (is_fact (take i clause) y) (is_fact (x ∷ []) y) (sym (list_any-append (int_eq y) (take i clause) (x ∷ [])) ∙ ap (λ v. is_fact v y) (sym e) ∙ k)) [
        | inl a ↦ so_far.upper y a f (omega arith)
        | inr b ↦ ap (is_refuted (take f T)) (one_of x y b) ∙ before f ∙ lt-ltb p f (omega arith)
      ];
      start = λ none. absurd (omega arith);
      reached = λ some. elim (cases_lt h p) [
        | inl more ↦ (x, (known_at clause i small, λ f under. false_from_ne_true (is_refuted (take f T) x) (λ t. let less : p < f = ltb-true p f (sym (before f) ∙ t) in omega arith)))
        | inr less ↦ elim (cases_lt 0 i) [
          | inl a ↦ let r = so_far.reached a in (r.0, (r.1.0, λ f under. r.1.1 f (omega arith)))
          | inr none ↦
              (x, (known_at clause i small, λ f under. false_from_ne_true (is_refuted (take f T) x) (λ t. let below : p < f = ltb-true p f (sym (before f) ∙ t) in let zero : h ≡ 0 = so_far.start (omega arith) in omega arith)))
        ]
      ];
    }
