-- Entries in use, as steps of a derivation.
use Rattle.std.proofs.Common.{◌≡◌, ◌⊎◌, ℕ, zero, suc, ◌+◌, ◌-◌, ◌<◌, Bool, true, ◌&&◌, List, [], ◌∷◌, ◌++◌, length, map, eqb, Some, inl, inr, refl, sym, ap, ◌∙◌, subst, arith, eq-eqb, length-append, append_assoc}
use Rattle.std.specs.Prelude.{ℤ, slice_get, slice_index_or, nat_lt, nat_le, unwrap_or}
use Rattle.std.specs.List.{list_all}
use Rattle.std.proofs.lemmas.Bool.{and_parts, and_from, or_cases, or_left, or_right, cases_lt, false≢true, ltb-true, lt-ltb, eqb-true}
use Rattle.std.proofs.lemmas.List.{map-append}
use Rattle.std.proofs.lemmas.List.Folds.{list_all-append}
use Rattle.solv_derive.specs.Inner.Leaves.{rules_of}
use Rattle.solv_derive.specs.Logs.{is_good_step, are_good_steps}
use Rattle.solv_derive.specs.Range.{steps_over}
use Rattle.solv_pool.specs.Prelude.{is_over}
use Rattle.solv_derive.specs.declared.logs.Hint.{Hint}
use Rattle.solv_derive.specs.declared.logs.Hint.TheVariants as hint
use Rattle.solv_derive.specs.declared.logs.Step.{Step}
use Rattle.solv_learn.specs.Inner.Refuting.{is_in_use}
use Rattle.solv_derive.specs.Inner.Trimming.{renumbered, renumbered_step, hints_at}
use Rattle.solv_core.specs.Inner.Holding.{numbered_entry, is_step_below, IsStepAt, AreEntries, AreDerived, IsHeldBy}
use Rattle.solv_core.specs.Cores.{CoreOf}
use Rattle.solv_core.specs.Inner.Cores.{none_in_use}
use Rattle.solv_core.specs.declared.ledger.Entry.{Entry}
use Rattle.solv_core.specs.declared.ledger.Ledger.{Ledger}
use Rattle.solv_list.proofs.Lists.{place_there, at_end, get_front_again}

-- hints in use name steps below the number of rules
pub steps_below : (used : ℕ → Bool) (count all most : ℕ) → all < most → (hints : List Hint) → list_all (is_in_use used count 0 all) hints ≡ true → list_all (is_step_below most) hints ≡ true
steps_below used count all most less [] h = refl
steps_below used count all most less (hint.Book r ∷ hints) h =
    steps_below used count all most less hints (and_parts (is_in_use used count 0 all (hint.Book r)) (list_all (is_in_use used count 0 all) hints) h).1
steps_below used count all most less (hint.Step n ∷ hints) h =
    let both = and_parts (is_in_use used count 0 all (hint.Step n)) (list_all (is_in_use used count 0 all) hints) h in
    let high : count + (n - 0) < all = ltb-true (count + (n - 0)) all (and_parts (nat_le 0 n) (nat_lt (count + (n - 0)) all) both.0).1 in
    and_from (nat_lt n most) (list_all (is_step_below most) hints) (lt-ltb n most (omega (arith, high, less))) (steps_below used count all most less hints both.1)

-- a hint in use that names a step names one of the learnt rules
pub step_within : (used : ℕ → Bool) (count all n : ℕ) (hints : List Hint) → list_all (is_in_use used count 0 all) hints ≡ true → hints_at n hints ≡ true → count + n < all
step_within used count all n [] h k = absurd (false≢true k)
step_within used count all n (hint.Book r ∷ hints) h k =
    step_within used count all n hints (and_parts (is_in_use used count 0 all (hint.Book r)) (list_all (is_in_use used count 0 all) hints) h).1 k
step_within used count all n (hint.Step m ∷ hints) h k =
    let both = and_parts (is_in_use used count 0 all (hint.Step m)) (list_all (is_in_use used count 0 all) hints) h in
    elim (or_cases (eqb m n) (hints_at n hints) k) [
      | inl e ↦
          let same : m ≡ n = eqb-true m n e in
          let high : count + (m - 0) < all = ltb-true (count + (m - 0)) all (and_parts (nat_le 0 m) (nat_lt (count + (m - 0)) all) both.0).1 in
          omega (arith, high, same)
      | inr r ↦ step_within used count all n hints both.1 r
    ]

-- functions that agree on the steps that hints name renumber them alike
pub renumbered_alike : (f g : ℕ → ℕ) (hints : List Hint) → ((n : ℕ) → hints_at n hints ≡ true → f n ≡ g n) → map (renumbered f) hints ≡ map (renumbered g) hints
renumbered_alike f g [] h = refl
renumbered_alike f g (hint.Book r ∷ hints) h = ap (λ v. hint.Book r ∷ v) (renumbered_alike f g hints h)
renumbered_alike f g (hint.Step n ∷ hints) h =
    let here : f n ≡ g n = h n (or_left (eqb n n) (hints_at n hints) (eq-eqb n n refl)) in
    ap (λ m. hint.Step m ∷ map (renumbered f) hints) here ∙ ap (λ v. hint.Step (g n) ∷ v) (renumbered_alike f g hints (λ m k. h m (or_right (eqb n m) (hints_at m hints) k)))

pub renumbered_twice : (f g : ℕ → ℕ) (hints : List Hint) → map (renumbered f) (map (renumbered g) hints) ≡ map (renumbered (λ n. f (g n))) hints
renumbered_twice f g [] = refl
renumbered_twice f g (hint.Book r ∷ hints) = ap (λ v. hint.Book r ∷ v) (renumbered_twice f g hints)
renumbered_twice f g (hint.Step n ∷ hints) = ap (λ v. hint.Step (f (g n)) ∷ v) (renumbered_twice f g hints)

pub renumbered_back : (f : ℕ → ℕ) (hints : List Hint) → ((n : ℕ) → hints_at n hints ≡ true → f n ≡ n) → map (renumbered f) hints ≡ hints
renumbered_back f [] h = refl
renumbered_back f (hint.Book r ∷ hints) h = ap (λ v. hint.Book r ∷ v) (renumbered_back f hints h)
renumbered_back f (hint.Step n ∷ hints) h =
    let here : f n ≡ n = h n (or_left (eqb n n) (hints_at n hints) (eq-eqb n n refl)) in
    ap (λ m. hint.Step m ∷ map (renumbered f) hints) here ∙ ap (λ v. hint.Step n ∷ v) (renumbered_back f hints (λ m k. h m (or_right (eqb n m) (hints_at m hints) k)))

-- a step that renumbered hints name is that of a hint
pub hint_before : (f : ℕ → ℕ) (m : ℕ) (hints : List Hint) → hints_at m (map (renumbered f) hints) ≡ true → (n : ℕ) × ((hints_at n hints ≡ true) × (f n ≡ m))
hint_before f m [] h = absurd (false≢true h)
hint_before f m (hint.Book r ∷ hints) h = hint_before f m hints h
hint_before f m (hint.Step n ∷ hints) h = elim (or_cases (eqb (f n) m) (hints_at m (map (renumbered f) hints)) h) [
  | inl e ↦ (n, (or_left (eqb n n) (hints_at n hints) (eq-eqb n n refl), eqb-true (f n) m e))
  | inr r ↦ let k = hint_before f m hints r in (k.0, (or_right (eqb n k.0) (hints_at k.0 hints) k.1.0, k.1.1))
]

pub hint_after : (f : ℕ → ℕ) (m : ℕ) (hints : List Hint) → hints_at m hints ≡ true → hints_at (f m) (map (renumbered f) hints) ≡ true
hint_after f m [] h = absurd (false≢true h)
hint_after f m (hint.Book r ∷ hints) h = hint_after f m hints h
hint_after f m (hint.Step n ∷ hints) h = elim (or_cases (eqb n m) (hints_at m hints) h) [
  | inl e ↦ or_left (eqb (f n) (f m)) (hints_at (f m) (map (renumbered f) hints)) (eq-eqb (f n) (f m) (ap f (eqb-true n m e)))
  | inr r ↦ or_right (eqb (f n) (f m)) (hints_at (f m) (map (renumbered f) hints)) (hint_after f m hints r)
]

pub rules_same : (f : ℕ → ℕ) (hints : List Hint) → rules_of (map (renumbered f) hints) ≡ rules_of hints
rules_same f [] = refl
rules_same f (hint.Book r ∷ hints) = ap (λ l. r ∷ l) (rules_same f hints)
rules_same f (hint.Step n ∷ hints) = rules_same f hints

-- one element more: one of those before it, or it
pub get_pushed : {X : Type 0} (xs : List X) (x y : X) (i : ℕ) → slice_get (xs ++ x ∷ []) i ≡ Some y → ((slice_get xs i ≡ Some y) × (i < length xs)) ⊎ ((i ≡ length xs) × (x ≡ y))
get_pushed [] x y zero e = inr (refl, ap (λ o. unwrap_or o x) e)
get_pushed [] x y (suc i) e = absurd (cc)
get_pushed (z ∷ xs) x y zero e = inl (e, omega arith)
get_pushed (z ∷ xs) x y (suc i) e = elim (get_pushed xs x y i e) [
  | inl h ↦ inl (h.0, let l = h.1 in omega (arith, l))
  | inr h ↦ inr (ap suc h.0, h.1)
]

pub entry_at : (xs : List Entry) (i : ℕ) (e d : Entry) → slice_get xs i ≡ Some e → slice_index_or xs i d ≡ e
entry_at [] i e d h = absurd (cc)
entry_at (x ∷ xs) zero e d h = ap (λ o. unwrap_or o x) h
entry_at (x ∷ xs) (suc i) e d h = entry_at xs i e d h

pub step_at : (xs : List Step) (i : ℕ) (e d : Step) → slice_get xs i ≡ Some e → slice_index_or xs i d ≡ e
step_at [] i e d h = absurd (cc)
step_at (x ∷ xs) zero e d h = ap (λ o. unwrap_or o x) h
step_at (x ∷ xs) (suc i) e d h = step_at xs i e d h

pub some_step : (xs : List Step) (i : ℕ) → i < length xs → (s : Step) × (slice_get xs i ≡ Some s)
some_step [] i less = absurd (omega (arith, less))
some_step (x ∷ xs) zero less = (x, refl)
some_step (x ∷ xs) (suc i) less = some_step xs i (omega (arith, less))

module _ (entries : List Entry) (number : ℕ → ℕ) (steps : List Step) (h : AreEntries entries number steps) where
  pub number_within : (rule : ℕ) → rule < length steps → number rule < length entries
  number_within rule less =
      let s = some_step steps rule less in
      let a = h.held rule s.0 s.1 in
      place_there entries (number rule) a.0 a.1.0

  -- an entry that a hint names is that of an earlier rule
  pub named_earlier : (rule : ℕ) (s : Step) → slice_get steps rule ≡ Some s → (m : ℕ) → hints_at m (map (renumbered number) s.hints) ≡ true → (q : ℕ) × ((q < rule) × ((number q ≡ m) × (number q < number rule)))
  named_earlier rule s at m k =
      let q = hint_before number m s.hints k in
      let b : q.0 < rule = h.earlier rule q.0 s at q.1.0 in
      (q.0, (b, (q.1.1, h.rising q.0 rule b (place_there steps rule s at))))

-- the step of an entry whose hints name learnt rules
abbrev pub step_of : Entry → Step
step_of e = record { clause = e.clause; hints = e.hints }

-- one entry more, under the next number
pub entries_more : (entries : List Entry) (number : ℕ → ℕ) (steps : List Step) (e : Entry) → AreEntries entries number steps → number (length steps) ≡ length entries
    → ((n : ℕ) → hints_at n e.hints ≡ true → n < length steps) → AreEntries (entries ++ numbered_entry number e ∷ []) number (steps ++ step_of e ∷ [])
entries_more entries number steps e h next below =
    let more : length (steps ++ step_of e ∷ []) ≡ length steps + 1 = length-append steps (step_of e ∷ []) in
    let longer : length (entries ++ numbered_entry number e ∷ []) ≡ length entries + 1 = length-append entries (numbered_entry number e ∷ []) in
    record {
      few = omega (arith, more, longer, h.few);
      rising = λ i k less within. elim (cases_lt k (length steps)) [
        | inl front ↦ h.rising i k less front
        | inr last ↦
            let e : k ≡ length steps = omega (arith, last, within, more) in
            let there : i < length steps = omega (arith, less, e) in
            let s = some_step steps i there in
            let a = h.held i s.0 s.1 in
            let b : number i < length entries = place_there entries (number i) a.0 a.1.0 in
            let same : number k ≡ length entries = ap number e ∙ next in
            omega (arith, b, same)
      ];
      earlier = λ i n s at hinted. elim (get_pushed steps (step_of e) s i at) [
        | inl front ↦ h.earlier i n s front.0 hinted
        | inr last ↦ let b = below n (ap (λ v. hints_at n v.hints) last.1 ∙ hinted) in omega (arith, b, last.0)
      ];
      held = λ i s at. elim (get_pushed steps (step_of e) s i at) [
        | inl front ↦ let a = h.held i s front.0 in (a.0, (get_front_again entries (numbered_entry number e ∷ []) (number i) a.0 a.1.0, a.1.1))
        | inr last ↦
            let P : Step → Type 0 = λ v. IsStepAt (entries ++ numbered_entry number e ∷ []) (number i) (renumbered_step number v) in
            let same : number i ≡ length entries = ap number last.0 ∙ next in
            subst P last.1 (numbered_entry number e, (ap (slice_get (entries ++ numbered_entry number e ∷ [])) same ∙ at_end entries (numbered_entry number e), (refl, refl)))
      ];
    }

-- one step more in a derivation
pub derived_more : (book : List (List ℤ)) (packages : ℕ) (clauses : List (List ℤ)) (steps : List Step) (s : Step) → AreDerived book packages clauses steps → is_good_step book clauses s ≡ true → is_over packages s.clause ≡ true
    → AreDerived book packages (clauses ++ s.clause ∷ []) (steps ++ s ∷ [])
derived_more book packages clauses steps s h good over = record {
  are = ap (λ v. v ++ s.clause ∷ []) h.are ∙ sym (map-append (λ t. t.clause) steps (s ∷ []));
  good = good_more [] steps h.good (let P : List (List ℤ) → Type 0 = λ v. is_good_step book v s ≡ true in subst P h.are good);
  over = list_all-append (λ t. is_over packages t.clause) steps (s ∷ []) ∙ and_from (steps_over packages steps) (is_over packages s.clause && true) h.over (and_from (is_over packages s.clause) true over refl);
}
  where
    good_more : (earlier : List (List ℤ)) (xs : List Step) → are_good_steps book earlier xs ≡ true → is_good_step book (earlier ++ map (λ t. t.clause) xs) s ≡ true → are_good_steps book earlier (xs ++ s ∷ []) ≡ true
    good_more earlier [] g k = and_from (is_good_step book earlier s) true (let P : List (List ℤ) → Type 0 = λ v. is_good_step book v s ≡ true in subst P (none earlier) k) refl
      where
        none : (ys : List (List ℤ)) → ys ++ [] ≡ ys
        none [] = refl
        none (y ∷ ys) = ap (λ v. y ∷ v) (none ys)
    good_more earlier (x ∷ xs) g k =
        let both = and_parts (is_good_step book earlier x) (are_good_steps book (earlier ++ x.clause ∷ []) xs) g in
        let P : List (List ℤ) → Type 0 = λ v. is_good_step book v s ≡ true in
        and_from (is_good_step book earlier x) (are_good_steps book (earlier ++ x.clause ∷ []) (xs ++ s ∷ [])) both.0
        (good_more (earlier ++ x.clause ∷ []) xs both.1 (subst P (sym (append_assoc earlier (x.clause ∷ []) (map (λ t. t.clause) xs))) k))

-- where nothing is learnt yet, every ledger holds it
pub nothing_held : (made : CoreOf) (ledger : Ledger) → IsHeldBy (record { made = made; in_use = none_in_use }) ledger
nothing_held made ledger = record {
  steps = [];
  derived = record { are = refl; good = refl; over = refl };
  held = record { few = omega arith; rising = λ i k less within. absurd (omega (arith, within)); earlier = λ i n s at h. absurd (cc); held = λ i s at. absurd (cc) };
  few = omega arith;
  behind = omega arith;
}

pub held_by_none : (made : CoreOf) (kept : List ℕ) (first : ℕ) (clauses : List (List ℤ)) → kept ≡ [] → first ≡ 0 → clauses ≡ [] → (ledger : Ledger) → IsHeldBy (record { made = made; in_use = record { kept = kept; first = first; clauses = clauses } }) ledger
held_by_none made kept first clauses e f g ledger =
    let P : List ℕ → ℕ → List (List ℤ) → Type 0 = λ k n l. IsHeldBy (record { made = made; in_use = record { kept = k; first = n; clauses = l } }) ledger in
    subst (λ k. P k first clauses) (sym e) (subst (λ n. P [] n clauses) (sym f) (subst (λ l. P [] 0 l) (sym g) (nothing_held made ledger)))
