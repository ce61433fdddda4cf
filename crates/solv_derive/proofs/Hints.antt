-- A walk through hints, one at a time.
use Rattle.std.proofs.Common.{◌≡◌, ℕ, zero, suc, ◌+◌, ◌<◌, ◌≤◌, Bool, true, false, not, ◌&&◌, List, [], ◌∷◌, length, take, drop, get_or, map, filter, Option, Some, None, refl, sym, ap, ◌∙◌, subst, arith, add-one}
use Rattle.std.specs.Prelude.{ℤ, neg_ℤ, slice_get}
use Rattle.std.specs.List.{list_any}
use Rattle.std.proofs.lemmas.Bool.{and_parts}
use Rattle.solv_pool.specs.Prelude.{is_fact, only, is_over, are_over, names_package}
use Rattle.solv_derive.specs.Forced.{is_falsified, forced}
use Rattle.solv_derive.specs.Range.{steps_over}
use Rattle.solv_pool.specs.Inner.Propagation.{forced_by}
use Rattle.solv_derive.specs.Logs.{ends_in_conflict, hint_clause}
use Rattle.solv_derive.specs.declared.logs.Hint.{Hint}
use Rattle.solv_derive.specs.declared.logs.Hint.TheVariants as hint
use Rattle.solv_derive.specs.declared.logs.Step.{Step}
use Rattle.solv_derive.proofs.Facts.{known_here, all_member, filter_from}

module _ (look : Hint → Option (List ℤ)) (facts : List ℤ) where
  pub run_next : (c : List ℤ) (l : ℤ) (hints : List Hint) (k : ℕ) (d : Hint) → suc k < length hints → look (get_or hints k d) ≡ Some c → forced facts c ≡ Some l → ends_in_conflict look facts (drop k hints) ≡ ends_in_conflict look (l ∷ facts) (drop (suc k) hints)
  run_next c l [] k d h e f = absurd (omega arith)
  run_next c l (x ∷ []) zero d h e f = absurd (omega arith)
  run_next c l (x ∷ y ∷ xs) zero d h e f = rw (e, f) refl
  run_next c l (x ∷ xs) (suc k) d h e f = run_next c l xs k d (omega arith) e f

  pub run_last : (c : List ℤ) (hints : List Hint) (k : ℕ) (d : Hint) → suc k ≡ length hints → look (get_or hints k d) ≡ Some c → ends_in_conflict look facts (drop k hints) ≡ is_falsified facts c
  run_last c [] k d h e = absurd (omega arith)
  run_last c (x ∷ []) zero d h e = rw e refl
  run_last c (x ∷ y ∷ xs) zero d h e = absurd (omega arith)
  run_last c (x ∷ xs) (suc k) d h e = run_last c xs k d (omega arith) e

  pub run_lost : (hints : List Hint) (k : ℕ) (d : Hint) → k < length hints → look (get_or hints k d) ≡ None → ends_in_conflict look facts (drop k hints) ≡ false
  run_lost [] k d h e = absurd (omega arith)
  run_lost (x ∷ []) zero d h e = rw e refl
  run_lost (x ∷ y ∷ xs) zero d h e = rw e refl
  run_lost (x ∷ xs) (suc k) d h e = run_lost xs k d (omega arith) e

  pub run_stuck : (c : List ℤ) (hints : List Hint) (k : ℕ) (d : Hint) → suc k < length hints → look (get_or hints k d) ≡ Some c → forced facts c ≡ None → ends_in_conflict look facts (drop k hints) ≡ false
  run_stuck c [] k d h e f = absurd (omega arith)
  run_stuck c (x ∷ []) zero d h e f = absurd (omega arith)
  run_stuck c (x ∷ y ∷ xs) zero d h e f = rw (e, f) refl
  run_stuck c (x ∷ xs) (suc k) d h e f = run_stuck c xs k d (omega arith) e f

  pub run_over : (hints : List Hint) (k : ℕ) → length hints ≤ k → ends_in_conflict look facts (drop k hints) ≡ false
  run_over [] zero h = refl
  run_over [] (suc k) h = refl
  run_over (x ∷ xs) zero h = absurd (omega arith)
  run_over (x ∷ xs) (suc k) h = run_over xs k (omega arith)

pub clause_over : (count : ℕ) (clauses : List (List ℤ)) (k : ℕ) (c : List ℤ) → are_over count clauses ≡ true → slice_get clauses k ≡ Some c → is_over count c ≡ true
clause_over count [] k c h e = cc
clause_over count (x ∷ xs) zero c h e = let f : x ≡ c = cc in ap (is_over count) (sym f) ∙ (and_parts (is_over count x) (are_over count xs) h).0
clause_over count (x ∷ xs) (suc k) c h e = clause_over count xs k c (and_parts (is_over count x) (are_over count xs) h).1 e

steps_clauses : (count : ℕ) (steps : List Step) (place : ℕ) → steps_over count steps ≡ true → are_over count (map (λ s. s.clause) (take place steps)) ≡ true
steps_clauses count steps zero h = refl
steps_clauses count [] (suc place) h = refl
steps_clauses count (s ∷ steps) (suc place) h =
    let both = and_parts (is_over count s.clause) (steps_over count steps) h in
    rw (both.0) (steps_clauses count steps place both.1)

pub found_over : (count : ℕ) (book : List (List ℤ)) (steps : List Step) (place : ℕ) (hint : Hint) (c : List ℤ) → are_over count book ≡ true → steps_over count steps ≡ true → hint_clause book (map (λ s. s.clause) (take place steps)) hint ≡ Some c → is_over count c ≡ true
found_over count book steps place (hint.Book rule) c h g e = clause_over count book rule c h e
found_over count book steps place (hint.Step k) c h g e = clause_over count (map (λ s. s.clause) (take place steps)) k c (steps_clauses count steps place g) e

pub forced_over : (count : ℕ) (known : ℤ → Bool) (c : List ℤ) (l : ℤ) → is_over count c ≡ true → forced_by known c ≡ Some l → names_package count l ≡ true
forced_over count known c l over h = go (list_any known c) refl
  where
    single_is : (xs : List ℤ) → only xs ≡ Some l → xs ≡ l ∷ []
    single_is [] e = cc
    single_is (x ∷ []) e = cc
    single_is (x ∷ y ∷ xs) e = cc

    go : (b : Bool) → list_any known c ≡ b → names_package count l ≡ true
    go true e = let k : None ≡ Some l = rw e at h in absurd (cc)
    go false e =
        let k : only (filter (λ m. not (known m) && not (known (neg_ℤ m))) c) ≡ Some l = rw e at h in
        let f : filter (λ m. not (known m) && not (known (neg_ℤ m))) c ≡ l ∷ [] = single_is (filter (λ m. not (known m) && not (known (neg_ℤ m))) c) k in
        let P : List ℤ → Type 0 = λ v. is_fact v l ≡ true in
        all_member (names_package count) c over l (filter_from (λ m. not (known m) && not (known (neg_ℤ m))) c l (subst P (sym f) (known_here l []))).0

-- the rules from one place on, by the rule there
next_over : (count : ℕ) (clauses : List (List ℤ)) (i : ℕ) (c : List ℤ) → slice_get clauses i ≡ Some c → are_over count (drop i clauses) ≡ (is_over count c && are_over count (drop (suc i) clauses))
next_over count [] i c e = cc
next_over count (x ∷ xs) zero c e = let f : x ≡ c = cc in ap (λ v. is_over count v && are_over count xs) f
next_over count (x ∷ xs) (suc i) c e = next_over count xs i c e

pub over_next : (count : ℕ) (clauses : List (List ℤ)) (i : ℕ) (c : List ℤ) → slice_get clauses i ≡ Some c → are_over count (drop i clauses) ≡ (is_over count c && are_over count (drop (i + 1) clauses))
over_next count clauses i c e = rw add-one (next_over count clauses i c e)
