-- The leaves of entries, by their hints.
use Rattle.std.proofs.Common.{◌≡◌, ℕ, zero, suc, ◌+◌, ◌<◌, Bool, true, ◌&&◌, List, [], ◌∷◌, ◌++◌, length, take, drop, eqb, Some, inl, inr, refl, sym, ap, ◌∙◌, arith, eq-eqb, length-append}
use Rattle.std.specs.Prelude.{ℤ, slice_get, nat_lt, unwrap_or}
use Rattle.std.specs.List.{list_all}
use Rattle.std.proofs.lemmas.Bool.{and_parts, and_from, or_cases, or_left, or_right, false≢true, eqb-true}
use Rattle.std.proofs.lemmas.List.Folds.{list_all-append}
use Rattle.solv_derive.specs.Inner.Leaves.{rules_of}
use Rattle.solv_derive.specs.declared.logs.Hint.{Hint}
use Rattle.solv_derive.specs.declared.logs.Hint.TheVariants as hint
use Rattle.solv_trail.specs.Propagated.{in_use}
use Rattle.solv_derive.specs.Inner.Trimming.{is_on, hints_at}
use Rattle.solv_core.specs.Ledgers.{is_book_in_use, leaves_after, rests_on_enabled}
use Rattle.solv_core.specs.Inner.Ledgers.{leaves_of_hints, entry_leaves}
use Rattle.solv_core.specs.Inner.Holding.{hint_stays}
use Rattle.solv_core.specs.declared.ledger.Entry.{Entry}
use Rattle.solv_list.proofs.Lists.{at_end, get_front, place_there}

-- leaves of earlier entries stay
leaves_join : (before : List (List ℕ)) (xs ys : List Entry) → leaves_after before (xs ++ ys) ≡ leaves_after (leaves_after before xs) ys
leaves_join before [] ys = refl
leaves_join before (x ∷ xs) ys = leaves_join (before ++ leaves_of_hints before x.hints ∷ []) xs ys

leaves_many : (before : List (List ℕ)) (xs : List Entry) → length (leaves_after before xs) ≡ length before + length xs
leaves_many before [] = omega arith
leaves_many before (x ∷ xs) =
    let longer : length (before ++ leaves_of_hints before x.hints ∷ []) ≡ length before + 1 = length-append before (leaves_of_hints before x.hints ∷ []) in
    let rest : length (leaves_after (before ++ leaves_of_hints before x.hints ∷ []) xs) ≡ length (before ++ leaves_of_hints before x.hints ∷ []) + length xs = leaves_many (before ++ leaves_of_hints before x.hints ∷ []) xs in
    omega (arith, longer, rest)

leaves_front : (before : List (List ℕ)) (xs : List Entry) (k : ℕ) → k < length before → slice_get (leaves_after before xs) k ≡ slice_get before k
leaves_front before [] k h = refl
leaves_front before (x ∷ xs) k h =
    let longer : length (before ++ leaves_of_hints before x.hints ∷ []) ≡ length before + 1 = length-append before (leaves_of_hints before x.hints ∷ []) in
    leaves_front (before ++ leaves_of_hints before x.hints ∷ []) xs k (omega (arith, longer, h)) ∙ get_front before (leaves_of_hints before x.hints ∷ []) k h

pub leaves_stay : (xs ys : List Entry) (k : ℕ) → k < length xs → slice_get (entry_leaves (xs ++ ys)) k ≡ slice_get (entry_leaves xs) k
leaves_stay xs ys k h =
    let many : length (entry_leaves xs) ≡ 0 + length xs = leaves_many [] xs in
    ap (λ v. slice_get v k) (leaves_join [] xs ys) ∙ leaves_front (entry_leaves xs) ys k (omega (arith, many, h))

-- the leaves of an entry are those of its hints, over the leaves of the entries before it
leaves_from : (before : List (List ℕ)) (xs : List Entry) (k : ℕ) (e : Entry) → slice_get xs k ≡ Some e → slice_get (leaves_after before xs) (length before + k) ≡ Some (leaves_of_hints (leaves_after before (take k xs)) e.hints)
leaves_from before [] k e h = absurd (cc)
leaves_from before (x ∷ xs) zero e h =
    let here : x ≡ e = ap (λ o. unwrap_or o x) h in
    let z : length before + 0 ≡ length before = omega arith in
    let more : length (before ++ leaves_of_hints before x.hints ∷ []) ≡ length before + 1 = length-append before (leaves_of_hints before x.hints ∷ []) in
    ap (slice_get (leaves_after (before ++ leaves_of_hints before x.hints ∷ []) xs)) z
    ∙ leaves_front (before ++ leaves_of_hints before x.hints ∷ []) xs (length before) (omega (arith, more))
    ∙ at_end before (leaves_of_hints before x.hints)
    ∙ ap (λ (v : Entry). Some (leaves_of_hints before v.hints)) here
leaves_from before (x ∷ xs) (suc k) e h =
    let more : length (before ++ leaves_of_hints before x.hints ∷ []) ≡ length before + 1 = length-append before (leaves_of_hints before x.hints ∷ []) in
    let z : length before + suc k ≡ length (before ++ leaves_of_hints before x.hints ∷ []) + k = omega (arith, more) in
    ap (slice_get (leaves_after (before ++ leaves_of_hints before x.hints ∷ []) xs)) z ∙ leaves_from (before ++ leaves_of_hints before x.hints ∷ []) xs k e h

leaves_alike : (L M : List (List ℕ)) (hints : List Hint) → ((m : ℕ) → hints_at m hints ≡ true → slice_get L m ≡ slice_get M m) → leaves_of_hints L hints ≡ leaves_of_hints M hints
leaves_alike L M [] h = refl
leaves_alike L M (hint.Book r ∷ hints) h = ap (λ v. r ∷ v) (leaves_alike L M hints h)
leaves_alike L M (hint.Step n ∷ hints) h =
    let here : slice_get L n ≡ slice_get M n = h n (or_left (eqb n n) (hints_at n hints) (eq-eqb n n refl)) in
    ap (λ o. unwrap_or o [] ++ leaves_of_hints L hints) here ∙ ap (λ v. unwrap_or (slice_get M n) [] ++ v) (leaves_alike L M hints (λ m k. h m (or_right (eqb n m) (hints_at m hints) k)))

split : (n : ℕ) (xs : List Entry) → take n xs ++ drop n xs ≡ xs
split zero xs = refl
split (suc n) [] = refl
split (suc n) (x ∷ xs) = ap (λ v. x ∷ v) (split n xs)

take_many : (n : ℕ) (xs : List Entry) → n < length xs → length (take n xs) ≡ n
take_many zero xs h = refl
take_many (suc n) [] h = absurd (omega (arith, h))
take_many (suc n) (x ∷ xs) h = ap suc (take_many n xs (omega (arith, h)))

pub leaves_at : (entries : List Entry) (n : ℕ) (e : Entry) → slice_get entries n ≡ Some e → ((m : ℕ) → hints_at m e.hints ≡ true → m < n) → unwrap_or (slice_get (entry_leaves entries) n) [] ≡ leaves_of_hints (entry_leaves entries) e.hints
leaves_at entries n e at earlier =
    let z : 0 + n ≡ n = omega arith in
    let many : length (take n entries) ≡ n = take_many n entries (place_there entries n e at) in
    ap (λ o. unwrap_or o []) (ap (slice_get (entry_leaves entries)) (sym z) ∙ leaves_from [] entries n e at)
    ∙ leaves_alike (entry_leaves (take n entries)) (entry_leaves entries) e.hints
    (λ m h. let less : m < n = earlier m h in sym (ap (λ v. slice_get (entry_leaves v) m) (sym (split n entries)) ∙ leaves_stay (take n entries) (drop n entries) m (omega (arith, less, many))))

-- an entry rests on enabled rules alone where all that its hints rest on does
module _ (clauses : List (List ℤ)) (owners : List ℕ) (enabled : List Bool) (entries : List Entry) (each : length owners ≡ length clauses) where
  abbrev rests : ℕ → Bool
  rests = rests_on_enabled clauses owners enabled entries

  abbrev own : ℕ → Bool
  own = is_book_in_use clauses owners enabled

  pub rests_by_hints : (flags : List Bool) (hints : List Hint) → ((m : ℕ) → hints_at m hints ≡ true → is_on flags m ≡ rests m) → list_all (hint_stays owners enabled flags) hints ≡ list_all own (leaves_of_hints (entry_leaves entries) hints)
  rests_by_hints flags [] h = refl
  rests_by_hints flags (hint.Book r ∷ hints) h =
      ap (λ n. (nat_lt r n && in_use owners enabled r) && list_all (hint_stays owners enabled flags) hints) each
      ∙ ap (λ b. own r && b) (rests_by_hints flags hints h)
  rests_by_hints flags (hint.Step n ∷ hints) h =
      let here : is_on flags n ≡ rests n = h n (or_left (eqb n n) (hints_at n hints) (eq-eqb n n refl)) in
      ap (λ b. b && list_all (hint_stays owners enabled flags) hints) here
      ∙ ap (λ b. rests n && b) (rests_by_hints flags hints (λ m k. h m (or_right (eqb n m) (hints_at m hints) k)))
      ∙ sym (list_all-append own (unwrap_or (slice_get (entry_leaves entries) n) []) (leaves_of_hints (entry_leaves entries) hints))

  pub rests_at : (flags : List Bool) (n : ℕ) (e : Entry) → slice_get entries n ≡ Some e → ((m : ℕ) → hints_at m e.hints ≡ true → m < n) → ((m : ℕ) → hints_at m e.hints ≡ true → is_on flags m ≡ rests m)
      → list_all (hint_stays owners enabled flags) e.hints ≡ rests n
  rests_at flags n e at earlier h = rests_by_hints flags e.hints h ∙ ap (list_all own) (sym (leaves_at entries n e at earlier))

  -- the rules that hints of such an entry name are in use, and so are the entries
  pub rests_rules : (hints : List Hint) → list_all own (leaves_of_hints (entry_leaves entries) hints) ≡ true → list_all own (rules_of hints) ≡ true
  rests_rules [] h = refl
  rests_rules (hint.Book r ∷ hints) h =
      let both = and_parts (own r) (list_all own (leaves_of_hints (entry_leaves entries) hints)) h in
      and_from (own r) (list_all own (rules_of hints)) both.0 (rests_rules hints both.1)
  rests_rules (hint.Step n ∷ hints) h =
      rests_rules hints (and_parts (rests n) (list_all own (leaves_of_hints (entry_leaves entries) hints)) (sym (list_all-append own (unwrap_or (slice_get (entry_leaves entries) n) []) (leaves_of_hints (entry_leaves entries) hints)) ∙ h)).1

  pub rests_steps : (m : ℕ) (hints : List Hint) → list_all own (leaves_of_hints (entry_leaves entries) hints) ≡ true → hints_at m hints ≡ true → rests m ≡ true
  rests_steps m [] h k = absurd (false≢true k)
  rests_steps m (hint.Book r ∷ hints) h k = rests_steps m hints (and_parts (own r) (list_all own (leaves_of_hints (entry_leaves entries) hints)) h).1 k
  rests_steps m (hint.Step n ∷ hints) h k =
      let both = and_parts (rests n) (list_all own (leaves_of_hints (entry_leaves entries) hints)) (sym (list_all-append own (unwrap_or (slice_get (entry_leaves entries) n) []) (leaves_of_hints (entry_leaves entries) hints)) ∙ h) in
      elim (or_cases (eqb n m) (hints_at m hints) k) [
        | inl e ↦ ap rests (sym (eqb-true n m e)) ∙ both.0
        | inr r ↦ rests_steps m hints both.1 r
      ]
