-- What one provide, or none of several, adds to the lists of a relation.
use Rattle.std.proofs.Common.{◌≡◌, ◌≢◌, ◌≤◌, ◌<◌, ◌+◌, ◌-◌, get_or, subst, ℕ, zero, suc, Bool, true, false, cond, List, [], ◌∷◌, ◌++◌, length, drop, map, slice_get, Some, None, refl, sym, ap, ◌∙◌, arith, append_assoc}
use Rattle.std.specs.Prelude.{Option, nat_eq, ◌==◌, ◌||◌, ◌&&◌, not, filter, if◌then◌else◌}
use Rattle.std.specs.List.Sorted.{IsNonDecreasing}
use Rattle.std.specs.Option.{option_eq}
use Rattle.std.proofs.lemmas.List.{append-nil}
use Rattle.std.proofs.Math.ListN.{drop_of_length-le}
use Rattle.std.proofs.lemmas.Bool.{eqb-true, true≢false}
use Rattle.std.proofs.lemmas.List.Sorted.{IsNonDecreasingBy-drop}
use Rattle.std.proofs.lemmas.Option.{slice_get-get_or, slice_get_within, get_or_from_slice_get}
use Rattle.solv_pool.specs.Prelude.{Held, when, is_among}
use Rattle.solv_list.proofs.Lists.{drop_get, some_there}
use Rattle.solv_prov.specs.declared.capability.Version.{Version}
use Rattle.solv_prov.specs.declared.capability.Provide.{Provide}
use Rattle.solv_prov.specs.declared.by_relation.ByRelation.{ByRelation}
use Rattle.solv_prov.specs.declared.seeking.Sought.{Sought}
use Rattle.solv_prov.specs.Inner.Lists.{Written}
use Rattle.solv_prov.specs.Inner.Capabilities.{versions_meet}
use Rattle.solv_prov.specs.Inner.Gathering.{meeting_after, named_among}
use Rattle.solv_prov.specs.Inner.Relating.{AddsProvide, AddsFrom, AddsMeeting}
use Rattle.solv_prov.specs.Inner.Seeking.{offered, wanted_of, is_met}

last_is : (last : Option ℕ) (p : ℕ) → option_eq nat_eq last (Some p) ≡ true → last ≡ Some p
last_is None p h = absurd (true≢false (sym h))
last_is (Some k) p h = ap (λ n. Some n) (eqb-true k p h)

module _ (pool : Held) (wanted : Version) where
  meeting_met : (x : Provide) (ys : List Provide) (last : Option ℕ) (open_list : List ℕ) → versions_meet pool x.version wanted ≡ true
      → (open_list ++ (if option_eq nat_eq last (Some x.pack) then [] else x.pack ∷ [])) ++ meeting_after pool wanted (Some x.pack) ys ≡ open_list ++ meeting_after pool wanted last (x ∷ ys)
  meeting_met x ys last open_list met = rw met (by (option_eq nat_eq last (Some x.pack)) refl)
    where
      by : (b : Bool) → option_eq nat_eq last (Some x.pack) ≡ b
          → (open_list ++ (if b then [] else x.pack ∷ [])) ++ meeting_after pool wanted (Some x.pack) ys
          ≡ open_list ++ (if not b then x.pack ∷ meeting_after pool wanted (Some x.pack) ys else meeting_after pool wanted last ys)
      by true e = ap (λ l. l ++ meeting_after pool wanted (Some x.pack) ys) (append-nil open_list) ∙ ap (λ o. open_list ++ meeting_after pool wanted o ys) (sym (last_is last x.pack e))
      by false e = append_assoc open_list (x.pack ∷ []) (meeting_after pool wanted (Some x.pack) ys)

  named_met : (x : Provide) (ys : List Provide) (open_list : List ℕ) → versions_meet pool x.version wanted ≡ true
      → (open_list ++ when x.is_own (x.pack ∷ [])) ++ named_among pool wanted ys ≡ open_list ++ named_among pool wanted (x ∷ ys)
  named_met x ys open_list met = rw met (by x.is_own)
    where
      by : (b : Bool) → (open_list ++ when b (x.pack ∷ [])) ++ named_among pool wanted ys
          ≡ open_list ++ map (λ (x : Provide). x.pack) (cond b (x ∷ filter (λ (x : Provide). versions_meet pool x.version wanted && x.is_own) ys) (filter (λ (x : Provide). versions_meet pool x.version wanted && x.is_own) ys))
      by true = append_assoc open_list (x.pack ∷ []) (named_among pool wanted ys)
      by false = ap (λ l. l ++ named_among pool wanted ys) (append-nil open_list)

  pub meeting_unmet : (x : Provide) (ys : List Provide) (last : Option ℕ) → versions_meet pool x.version wanted ≡ false → meeting_after pool wanted last (x ∷ ys) ≡ meeting_after pool wanted last ys
  meeting_unmet x ys last unmet = rw unmet refl

  pub named_unmet : (x : Provide) (ys : List Provide) → versions_meet pool x.version wanted ≡ false → named_among pool wanted (x ∷ ys) ≡ named_among pool wanted ys
  named_unmet x ys unmet = rw unmet refl

-- a run of provides that add nothing
skipped : {A : Type 0} (f : List Provide → A) (test : Provide → Bool) → ((x : Provide) (ys : List Provide) → test x ≡ false → f (x ∷ ys) ≡ f ys) → (xs : List Provide) (d from : ℕ) → from + d ≤ length xs
    → ((p : ℕ) (x : Provide) → from ≤ p → p < from + d → slice_get xs p ≡ Some x → test x ≡ false) → f (drop from xs) ≡ f (drop (from + d) xs)
skipped f test step xs zero from within none = let same : from ≡ from + 0 = omega arith in ap (λ n. f (drop n xs)) same
skipped f test step xs (suc d) from within none =
    let x = some_there xs from (omega (arith, within)) in
    let same : from + 1 + d ≡ from + suc d = omega arith in
    ap f (drop_get xs from x.0 x.1) ∙ step x.0 (drop (from + 1) xs) (none from x.0 (omega arith) (omega arith) x.1)
    ∙ skipped f test step xs d (from + 1) (omega (arith, within)) (λ p y le lt at. none p y (omega (arith, le)) (omega (arith, lt)) at)
    ∙ ap (λ n. f (drop n xs)) same

-- no provide from one place to another meets what is wanted
abbrev pub AreUnmet : Held → Sought → ℕ → ℕ → Type 0
AreUnmet pool s from to = (p : ℕ) (x : Provide) → from ≤ p → p < to → slice_get (offered s) p ≡ Some x → is_met pool s x ≡ false

module _ (pool : Held) (s : Sought) where
  pub meeting_skipped : (last : Option ℕ) (from to : ℕ) → from ≤ to → to ≤ length (offered s) → AreUnmet pool s from to
      → meeting_after pool (wanted_of s) last (drop from (offered s)) ≡ meeting_after pool (wanted_of s) last (drop to (offered s))
  meeting_skipped last from to le within none =
      let same : from + (to - from) ≡ to = omega (arith, le) in
      skipped (meeting_after pool (wanted_of s) last) (is_met pool s) (λ x ys h. meeting_unmet pool (wanted_of s) x ys last h) (offered s) (to - from) from (omega (arith, same, within)) (λ p x ge lt at. none p x ge (omega (arith, lt, same)) at)
      ∙ ap (λ n. meeting_after pool (wanted_of s) last (drop n (offered s))) same

  pub named_skipped : (from to : ℕ) → from ≤ to → to ≤ length (offered s) → AreUnmet pool s from to
      → named_among pool (wanted_of s) (drop from (offered s)) ≡ named_among pool (wanted_of s) (drop to (offered s))
  named_skipped from to le within none =
      let same : from + (to - from) ≡ to = omega (arith, le) in
      skipped (named_among pool (wanted_of s)) (is_met pool s) (λ x ys h. named_unmet pool (wanted_of s) x ys h) (offered s) (to - from) from (omega (arith, same, within)) (λ p x ge lt at. none p x ge (omega (arith, lt, same)) at)
      ∙ ap (λ n. named_among pool (wanted_of s) (drop n (offered s))) same

  -- the provide at a place is added
  pub adds_met : (place : ℕ) (x : Provide) (last after : Option ℕ) (old new : ByRelation) → slice_get (offered s) place ≡ Some x → is_met pool s x ≡ true → AddsProvide x last after old new
      → AddsFrom pool s place (place + 1) last after old new
  adds_met place x last after old new there met adds = record {
    providers_closed = ap (λ (l : Written). l.closed) adds.providers;
    named_closed = ap (λ (l : Written). l.closed) adds.named;
    providers =
        ap (λ (l : Written). l.open_list ++ meeting_after pool (wanted_of s) after (drop (place + 1) (offered s))) adds.providers
        ∙ ap (λ o. (old.providers.open_list ++ (if option_eq nat_eq last (Some x.pack) then [] else x.pack ∷ [])) ++ meeting_after pool (wanted_of s) o (drop (place + 1) (offered s))) adds.remembered
        ∙ meeting_met pool (wanted_of s) x (drop (place + 1) (offered s)) last old.providers.open_list met
        ∙ ap (λ ys. old.providers.open_list ++ meeting_after pool (wanted_of s) last ys) (sym (drop_get (offered s) place x there));
    named =
        ap (λ (l : Written). l.open_list ++ named_among pool (wanted_of s) (drop (place + 1) (offered s))) adds.named
        ∙ named_met pool (wanted_of s) x (drop (place + 1) (offered s)) old.named.open_list met
        ∙ ap (λ ys. old.named.open_list ++ named_among pool (wanted_of s) ys) (sym (drop_get (offered s) place x there));
  }

  -- it is passed over
  pub adds_unmet : (place : ℕ) (x : Provide) (last : Option ℕ) (made : ByRelation) → slice_get (offered s) place ≡ Some x → is_met pool s x ≡ false → AddsFrom pool s place (place + 1) last last made made
  adds_unmet place x last made there unmet = record {
    providers_closed = refl;
    named_closed = refl;
    providers = ap (λ l. made.providers.open_list ++ l) (sym (ap (meeting_after pool (wanted_of s) last) (drop_get (offered s) place x there) ∙ meeting_unmet pool (wanted_of s) x (drop (place + 1) (offered s)) last unmet));
    named = ap (λ l. made.named.open_list ++ l) (sym (ap (named_among pool (wanted_of s)) (drop_get (offered s) place x there) ∙ named_unmet pool (wanted_of s) x (drop (place + 1) (offered s)) unmet));
  }

  ends_with : (old new : Written) (list : List ℕ) → new.closed ≡ old.closed → new.open_list ≡ old.open_list ++ list → new ≡ record old { open_list = old.open_list ++ list }
  ends_with old new list closed open_list = λ i. record { closed = closed i; open_list = open_list i }

  -- what is left adds nothing
  pub adds_all : (old new : ByRelation) (last : Option ℕ) (n : ℕ) → length (offered s) ≤ n → new.providers.closed ≡ old.providers.closed → new.named.closed ≡ old.named.closed
      → new.providers.open_list ++ meeting_after pool (wanted_of s) last (drop n (offered s)) ≡ old.providers.open_list ++ meeting_after pool (wanted_of s) None (offered s)
      → new.named.open_list ++ named_among pool (wanted_of s) (drop n (offered s)) ≡ old.named.open_list ++ named_among pool (wanted_of s) (offered s) → AddsMeeting pool (wanted_of s) (offered s) old new
  adds_all old new last n all providers_closed named_closed providers named =
      let none : drop n (offered s) ≡ [] = drop_of_length-le (offered s) all in
      record {
        providers =
            ends_with old.providers new.providers (meeting_after pool (wanted_of s) None (offered s)) providers_closed
            (sym (append-nil new.providers.open_list) ∙ ap (λ xs. new.providers.open_list ++ meeting_after pool (wanted_of s) last xs) (sym none) ∙ providers);
        named =
            ends_with old.named new.named (named_among pool (wanted_of s) (offered s)) named_closed
            (sym (append-nil new.named.open_list) ∙ ap (λ xs. new.named.open_list ++ named_among pool (wanted_of s) xs) (sym none) ∙ named);
      }

  -- the same where nothing meets what is wanted from a place on
  pub adds_rest : (old new : ByRelation) (last : Option ℕ) (next : ℕ) → next ≤ length (offered s) → AreUnmet pool s next (length (offered s)) → new.providers.closed ≡ old.providers.closed → new.named.closed ≡ old.named.closed
      → new.providers.open_list ++ meeting_after pool (wanted_of s) last (drop next (offered s)) ≡ old.providers.open_list ++ meeting_after pool (wanted_of s) None (offered s)
      → new.named.open_list ++ named_among pool (wanted_of s) (drop next (offered s)) ≡ old.named.open_list ++ named_among pool (wanted_of s) (offered s) → AddsMeeting pool (wanted_of s) (offered s) old new
  adds_rest old new last next within none providers_closed named_closed providers named =
      adds_all old new last (length (offered s)) (omega arith) providers_closed named_closed
      (ap (λ l. new.providers.open_list ++ l) (sym (meeting_skipped last next (length (offered s)) within (omega arith) none)) ∙ providers)
      (ap (λ l. new.named.open_list ++ l) (sym (named_skipped next (length (offered s)) within (omega arith) none)) ∙ named)

-- the first of numbers that never fall is the least
some_at : (xs : List ℕ) (p : ℕ) → is_among xs p ≡ true → (k : ℕ) × (slice_get xs k ≡ Some p)
some_at [] p h = absurd (true≢false (sym h))
some_at (x ∷ xs) p h = by (x == p) refl (some_at xs p)
  where
    by : (b : Bool) → (x == p) ≡ b → (is_among xs p ≡ true → (k : ℕ) × (slice_get xs k ≡ Some p)) → (k : ℕ) × (slice_get (x ∷ xs) k ≡ Some p)
    by true e behind = (0, ap (λ n. Some n) (eqb-true x p e))
    by false e behind = let rest = behind (ap (λ b. b || is_among xs p) (sym e) ∙ h) in (suc rest.0, rest.1)

first_least : (x p : ℕ) (xs : List ℕ) → IsNonDecreasing (x ∷ xs) → is_among (x ∷ xs) p ≡ true → x ≤ p
first_least x p xs rise among =
    let there = some_at (x ∷ xs) p among in
    let is : get_or (x ∷ xs) there.0 0 ≡ p = get_or_from_slice_get (x ∷ xs) there.0 p 0 there.1 in
    let le : x ≤ get_or (x ∷ xs) there.0 0 = rise 0 there.0 0 (omega arith) (slice_get_within (x ∷ xs) there.0 p there.1) in
    omega (arith, is, le)

-- all that meet what is wanted from one place on are among the places from another on
abbrev pub AreAhead : Held → Sought → List ℕ → ℕ → ℕ → Type 0
AreAhead pool s places next i = (p : ℕ) (x : Provide) → next ≤ p → slice_get (offered s) p ≡ Some x → is_met pool s x ≡ true → is_among (drop i places) p ≡ true

module _ (pool : Held) (s : Sought) (places : List ℕ) (rise : IsNonDecreasing places) (next i : ℕ) (ahead : AreAhead pool s places next i) where
  turn : i < length places → drop i places ≡ get_or places i 0 ∷ drop (i + 1) places
  turn within = drop_get places i (get_or places i 0) (slice_get-get_or places i 0 within)

  -- none before the next place meets it
  pub unmet_to : i < length places → AreUnmet pool s next (get_or places i 0)
  unmet_to within p x from lt here = by (is_met pool s x) refl
    where
      by : (b : Bool) → is_met pool s x ≡ b → is_met pool s x ≡ false
      by false e = e
      by true e =
          let up : IsNonDecreasing (drop i places) = IsNonDecreasingBy-drop (λ n. n) i places rise in
          let among : is_among (get_or places i 0 ∷ drop (i + 1) places) p ≡ true = ap (λ l. is_among l p) (sym (turn within)) ∙ ahead p x from here e in
          let least = first_least (get_or places i 0) p (drop (i + 1) places) (subst IsNonDecreasing (turn within) up) among in
          absurd (omega (arith, least, lt))

  -- behind it are the others
  pub ahead_more : (to : ℕ) → i < length places → next ≤ to → ((p : ℕ) → to ≤ p → p < length (offered s) → get_or places i 0 ≢ p) → AreAhead pool s places to (i + 1)
  ahead_more to within le apart p x from here met = by (get_or places i 0 == p) refl
    where
      among : (get_or places i 0 == p || is_among (drop (i + 1) places) p) ≡ true
      among = ap (λ l. is_among l p) (sym (turn within)) ∙ ahead p x (omega (arith, le, from)) here met

      by : (b : Bool) → (get_or places i 0 == p) ≡ b → is_among (drop (i + 1) places) p ≡ true
      by true e = absurd (apart p from (slice_get_within (offered s) p x here) (eqb-true (get_or places i 0) p e))
      by false e = ap (λ b. b || is_among (drop (i + 1) places) p) (sym e) ∙ among

  -- behind the last of them is none
  pub unmet_rest : length places ≤ i → AreUnmet pool s next (length (offered s))
  unmet_rest past p x from lt here = by (is_met pool s x) refl
    where
      by : (b : Bool) → is_met pool s x ≡ b → is_met pool s x ≡ false
      by false e = e
      by true e =
          let gone : false ≡ true = ap (λ l. is_among l p) (sym (drop_of_length-le places past)) ∙ ahead p x from here e in
          absurd (true≢false (sym gone))
