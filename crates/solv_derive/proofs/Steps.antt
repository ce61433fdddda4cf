-- A walk through the steps of a log.
use Rattle.std.proofs.Common.{◌≡◌, ℕ, zero, suc, ◌+◌, ◌-◌, ◌*◌, ◌<◌, ◌≤◌, true, false, List, [], ◌∷◌, ◌++◌, length, take, drop, get_or, map, Option, Some, None, inl, inr, refl, sym, ap, ◌∙◌, arith, if◌then◌else◌, eqb}
use Rattle.std.specs.Prelude.{ℤ, slice_get, slice_index}
use Rattle.std.proofs.lemmas.Bool.{and_parts, and_from, cases_Bool, ne_eqb, cond-true, cond-false}
use Rattle.std.proofs.lemmas.List.{drop_more, drop_all, take_more, map-append, length-map, length-take-le}
use Rattle.solv_pack.specs.Inner.Literals.{place_of}
use Rattle.solv_derive.specs.Laws.{YesIsForGoodLogs}
use Rattle.solv_derive.specs.Logs.{is_good_step, are_good_steps, first_bad, ends_empty, is_empty, is_good_log, checked}
use Rattle.solv_derive.specs.Inner.Marks.{Shows}
use Rattle.solv_derive.specs.Range.{steps_over}
use Rattle.solv_pool.specs.Prelude.{is_over}
use Rattle.solv_derive.specs.declared.logs.Step.{Step}
use Rattle.solv_derive.specs.declared.logs.Checked.{Checked}
use Rattle.solv_derive.specs.declared.logs.Checked.TheVariants.{Yes, No}

-- the marks of earlier steps are none of this one
pub fresh : (count : ℕ) (marks : List ℕ) (i now : ℕ) → length marks ≡ 2 * count + 2 → ((k : ℕ) → slice_index marks k ≤ i) → i < now → Shows count marks now []
fresh count marks i now size upto h = record {
  size = size;
  upto = λ k. let u : slice_index marks k ≤ i = upto k in omega arith;
  is = λ l o. let u : slice_index marks (place_of l) ≤ i = upto (place_of l) in ne_eqb (slice_index marks (place_of l)) now (λ e. omega arith);
}

pub bad_next : (book : List (List ℤ)) (steps : List Step) (i : ℕ) (d : Step) → i < length steps → is_good_step book (map (λ s. s.clause) (take i steps)) (get_or steps i d) ≡ true
    → first_bad book (map (λ s. s.clause) (take i steps)) (drop i steps) ≡ first_bad book (map (λ s. s.clause) (take (i + 1) steps)) (drop (i + 1) steps)
bad_next book steps i d h good =
    let before : List (List ℤ) = map (λ s. s.clause) (take i steps) in
    let s : Step = get_or steps i d in
    let more_before : map (λ t. t.clause) (take (i + 1) steps) ≡ before ++ s.clause ∷ [] = ap (map (λ t. t.clause)) (take_more steps i d h) ∙ map-append (λ t. t.clause) (take i steps) (s ∷ []) in
    ap (first_bad book before) (drop_more steps i d h)
    ∙ cond-true (is_good_step book before s) (first_bad book (before ++ s.clause ∷ []) (drop (i + 1) steps)) (Some (length before)) good
    ∙ ap (λ v. first_bad book v (drop (i + 1) steps)) (sym more_before)

pub bad_here : (book : List (List ℤ)) (steps : List Step) (i : ℕ) (d : Step) → i < length steps → is_good_step book (map (λ s. s.clause) (take i steps)) (get_or steps i d) ≡ false
    → first_bad book (map (λ s. s.clause) (take i steps)) (drop i steps) ≡ Some i
bad_here book steps i d h bad =
    let before : List (List ℤ) = map (λ s. s.clause) (take i steps) in
    let s : Step = get_or steps i d in
    ap (first_bad book before) (drop_more steps i d h)
    ∙ cond-false (is_good_step book before s) (first_bad book (before ++ s.clause ∷ []) (drop (i + 1) steps)) (Some (length before)) bad
    ∙ ap Some (length-map (take i steps) (λ t. t.clause) ∙ length-take-le i steps (omega arith))

pub checked_bad : (book : List (List ℤ)) (steps : List Step) (n : ℕ) → first_bad book [] steps ≡ Some n → checked book steps ≡ No n
checked_bad book steps n h = ap (λ o. elim o as (λ _. Checked) [ Some m ↦ No m | None ↦ if ends_empty steps then Yes else No (length steps) ]) h

pub checked_good : (book : List (List ℤ)) (steps : List Step) → first_bad book [] steps ≡ None → checked book steps ≡ (if ends_empty steps then Yes else No (length steps))
checked_good book steps h = ap (λ o. elim o as (λ _. Checked) [ Some m ↦ No m | None ↦ if ends_empty steps then Yes else No (length steps) ]) h

pub bad_none : (book : List (List ℤ)) (earlier : List (List ℤ)) (steps : List Step) (i : ℕ) → length steps ≤ i → first_bad book earlier (drop i steps) ≡ None
bad_none book earlier steps i h = ap (first_bad book earlier) (drop_all i steps h)

pub ends_empty_is : (steps : List Step) (s : Step) → slice_get steps (length steps - 1) ≡ Some s → ends_empty steps ≡ eqb (length s.clause) 0
ends_empty_is [] s h = cc
ends_empty_is (x ∷ []) s h = let e : x ≡ s = cc in rw e (is_empty_is s.clause)
  where
    is_empty_is : (c : List ℤ) → is_empty c ≡ eqb (length c) 0
    is_empty_is [] = refl
    is_empty_is (y ∷ c) = sym (ne_eqb (suc (length c)) 0 (λ e. omega arith))
ends_empty_is (x ∷ y ∷ xs) s h =
    let e : suc (suc (length xs)) - 1 ≡ suc (suc (length xs) - 1) = omega arith in
    let k : slice_get (x ∷ y ∷ xs) (suc (suc (length xs) - 1)) ≡ Some s = ap (slice_get (x ∷ y ∷ xs)) (sym e) ∙ h in
    ends_empty_is (y ∷ xs) s k

pub step_over : (count : ℕ) (steps : List Step) (i : ℕ) (d : Step) → steps_over count steps ≡ true → i < length steps → is_over count (get_or steps i d).clause ≡ true
step_over count [] i d h k = absurd (omega arith)
step_over count (x ∷ xs) zero d h k = (and_parts (is_over count x.clause) (steps_over count xs) h).0
step_over count (x ∷ xs) (suc i) d h k = step_over count xs i d (and_parts (is_over count x.clause) (steps_over count xs) h).1 (omega arith)

-- a check answers yes for good logs, and for no other
none_bad : (book : List (List ℤ)) (earlier : List (List ℤ)) (steps : List Step) → are_good_steps book earlier steps ≡ true → first_bad book earlier steps ≡ None
none_bad book earlier [] h = refl
none_bad book earlier (s ∷ steps) h =
    let both = and_parts (is_good_step book earlier s) (are_good_steps book (earlier ++ s.clause ∷ []) steps) h in
    cond-true (is_good_step book earlier s) (first_bad book (earlier ++ s.clause ∷ []) steps) (Some (length earlier)) both.0 ∙ none_bad book (earlier ++ s.clause ∷ []) steps both.1

all_good : (book : List (List ℤ)) (earlier : List (List ℤ)) (steps : List Step) → first_bad book earlier steps ≡ None → are_good_steps book earlier steps ≡ true
all_good book earlier [] h = refl
all_good book earlier (s ∷ steps) h = elim (cases_Bool (is_good_step book earlier s)) [
  | inl g ↦ and_from (is_good_step book earlier s) (are_good_steps book (earlier ++ s.clause ∷ []) steps) g
      (all_good book (earlier ++ s.clause ∷ []) steps (sym (cond-true (is_good_step book earlier s) (first_bad book (earlier ++ s.clause ∷ []) steps) (Some (length earlier)) g) ∙ h))
  | inr g ↦
      let k : Some (length earlier) ≡ None = sym (cond-false (is_good_step book earlier s) (first_bad book (earlier ++ s.clause ∷ []) steps) (Some (length earlier)) g) ∙ h in
      absurd (cc)
]

pub yes_is_for_good_logs : YesIsForGoodLogs
yes_is_for_good_logs book steps = (from_yes, to_yes)
  where
    from_yes : checked book steps ≡ Yes → is_good_log book steps ≡ true
    from_yes said = by (first_bad book [] steps) refl said
      where
        by : (o : Option ℕ) → first_bad book [] steps ≡ o → elim o as (λ _. Checked) [ Some n ↦ No n | None ↦ if ends_empty steps then Yes else No (length steps) ] ≡ Yes → is_good_log book steps ≡ true
        by (Some n) e f = cc
        by None e f = elim (cases_Bool (ends_empty steps)) [
          | inl g ↦ and_from (are_good_steps book [] steps) (ends_empty steps) (all_good book [] steps e) g
          | inr g ↦ let k : No (length steps) ≡ Yes = rw g at f in absurd (cc)
        ]

    to_yes : is_good_log book steps ≡ true → checked book steps ≡ Yes
    to_yes good =
        let both = and_parts (are_good_steps book [] steps) (ends_empty steps) good in
        checked_good book steps (none_bad book [] steps both.0) ∙ cond-true (ends_empty steps) Yes (No (length steps)) both.1
