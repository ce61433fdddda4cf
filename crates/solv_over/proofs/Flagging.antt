-- Which rules are enabled among all, from which of the made ones are.
use Rattle.std.proofs.Common.{◌≡◌, ◌⊎◌, ℕ, zero, suc, ◌+◌, ◌<◌, ◌≤◌, Bool, true, false, not, List, [], ◌∷◌, ◌++◌, map, filter, Some, None, inl, inr, refl, sym, ◌∙◌, ap, subst, length, arith, cond}
use Rattle.std.specs.Prelude.{slice_get, replicate, unwrap_or, ◌==◌}
use Rattle.std.proofs.lemmas.Bool.{cases_lt, eqb-true, false_from_ne_true, or_from}
use Rattle.solv_pool.specs.Prelude.{HardRule, is_fixed, is_among}
use Rattle.solv_trail.specs.Asked.{is_enabled}
use Rattle.solv_core.specs.Flags.{flags_of}
use Rattle.solv_core.specs.declared.ledger.Run.{Run}
use Rattle.solv_remedy.specs.Remedies.{droppable_rules}
use Rattle.solv_remedy.proofs.Said.{flags_at, same_flags}
use Rattle.solv_over.specs.Inner.Places.{run_at}
use Rattle.solv_over.specs.Inner.Thinned.{Thinned, end, same, more}
use Rattle.solv_over.proofs.Back.{map_back}
use Rattle.solv_over.proofs.Placing.{place, place_rises, spread, spread_same}
use Rattle.solv_over.proofs.Refuted.{among_at}
use Rattle.solv_over.proofs.Unmade.{unmade_fixed}

-- where each made rule is enabled, all are
pub first_spread : {left : List Bool} {made all : List HardRule} (t : Thinned left made all) → spread t (replicate (length made) true) ≡ replicate (length all) true
first_spread end = refl
first_spread (same x t) = ap (λ l. true ∷ l) (first_spread t)
first_spread (more x own t) = ap (λ l. true ∷ l) (first_spread t)

-- the rule of this number is there, and may not be dropped
abbrev pub fixed_at : List HardRule → ℕ → Bool
fixed_at rules k = elim (slice_get rules k) [ None ↦ false | Some x ↦ is_fixed x ]

-- where each made rule is enabled that may not be dropped, each of all is
pub fixed_spread : {left : List Bool} {made all : List HardRule} (t : Thinned left made all) (on : List Bool) → ((k : ℕ) → fixed_at made k ≡ true → is_enabled on k ≡ true) → (k : ℕ) → fixed_at all k ≡ true → is_enabled (spread t on) k ≡ true
fixed_spread end on h k f = h k f
fixed_spread (same x t) [] h zero f = h 0 f
fixed_spread (same x t) [] h (suc k) f = fixed_spread t [] (λ i m. h (suc i) m) k f
fixed_spread (same x t) (b ∷ on) h zero f = h 0 f
fixed_spread (same x t) (b ∷ on) h (suc k) f = fixed_spread t on (λ i m. h (suc i) m) k f
fixed_spread (more x own t) on h zero f = refl
fixed_spread (more x own t) on h (suc k) f = fixed_spread t on h k f

-- so it is with the runs of a ledger
pub first_run : {left : List Bool} {made all : List HardRule} (t : Thinned left made all) (runs : List Run) → slice_get runs 0 ≡ Some (record { enabled = replicate (length made) true; kept = [] })
    → slice_get (map (run_at (spread t)) runs) 0 ≡ Some (record { enabled = replicate (length all) true; kept = [] })
first_run t [] e = absurd (cc)
first_run t (r ∷ runs) e = ap (λ o. Some (run_at (spread t) (unwrap_or o r))) e ∙ ap (λ l. Some (record { enabled = l; kept = [] })) (first_spread t)

pub fixed_runs : {left : List Bool} {made all : List HardRule} (t : Thinned left made all) (runs : List Run) → ((n : ℕ) (run : Run) → slice_get runs n ≡ Some run → (k : ℕ) → fixed_at made k ≡ true → is_enabled run.enabled k ≡ true)
    → (n : ℕ) (run : Run) → slice_get (map (run_at (spread t)) runs) n ≡ Some run → (k : ℕ) → fixed_at all k ≡ true → is_enabled run.enabled k ≡ true
fixed_runs t runs each n run there k f =
    let m = map_back (run_at (spread t)) runs n run there in
    let R : Run → Type 0 = λ r. is_enabled r.enabled k ≡ true in
    subst R m.1.1 (fixed_spread t (m.0).enabled (each n m.0 m.1.0) k f)

-- as many of all may be dropped as of the made ones
pub few_same : {left : List Bool} {made all : List HardRule} → Thinned left made all → droppable_rules all ≡ droppable_rules made
few_same end = refl
few_same (same {made} {all} x t) = by (not (is_fixed x)) (few_same t)
  where
    by : (b : Bool) → droppable_rules all ≡ droppable_rules made
        → length (cond b (x ∷ filter (λ z. not (is_fixed z)) all) (filter (λ z. not (is_fixed z)) all)) ≡ length (cond b (x ∷ filter (λ z. not (is_fixed z)) made) (filter (λ z. not (is_fixed z)) made))
    by true e = ap suc e
    by false e = e
few_same (more {made} {all} x own t) = ap (λ b. length (cond (not b) (x ∷ filter (λ z. not (is_fixed z)) all) (filter (λ z. not (is_fixed z)) all))) (unmade_fixed x own) ∙ few_same t

-- places are within all rules exactly where they are of made ones
place_within : {left : List Bool} {made all : List HardRule} (t : Thinned left made all) (k : ℕ) → k < length made → place t k < length all
place_within end k h = h
place_within (same x t) zero h = omega arith
place_within (same x t) (suc k) h = let r = place_within t k (omega (arith, h)) in omega (arith, r)
place_within (more x own t) k h = let r = place_within t k h in omega (arith, r)

place_beyond : {left : List Bool} {made all : List HardRule} (t : Thinned left made all) (k : ℕ) → length made ≤ k → length all ≤ place t k
place_beyond end k h = h
place_beyond (same x t) zero h = absurd (omega (arith, h))
place_beyond (same x t) (suc k) h = let r = place_beyond t k (omega (arith, h)) in omega (arith, r)
place_beyond (more x own t) k h = let r = place_beyond t k h in omega (arith, r)

off_beyond : (flags : List Bool) (k : ℕ) → length flags ≤ k → is_enabled flags k ≡ false
off_beyond [] k h = refl
off_beyond (b ∷ flags) zero h = absurd (omega (arith, h))
off_beyond (b ∷ flags) (suc k) h = off_beyond flags k (omega (arith, h))

flags_many : (n : ℕ) (off : List ℕ) → length (flags_of n off) ≡ n
flags_many zero off = refl
flags_many (suc n) off = more_one (flags_of n off) (not (is_among off n)) ∙ ap suc (flags_many n off)
  where
    more_one : (xs : List Bool) (b : Bool) → length (xs ++ b ∷ []) ≡ suc (length xs)
    more_one [] b = refl
    more_one (x ∷ xs) b = ap suc (more_one xs b)

flags_beyond : (n : ℕ) (off : List ℕ) (k : ℕ) → n ≤ k → is_enabled (flags_of n off) k ≡ false
flags_beyond n off k h = let m = flags_many n off in off_beyond (flags_of n off) k (omega (arith, m, h))

-- where all but some made rules are enabled, and all but the same ones among all, each made rule is enabled as it was
pub flags_like : {left : List Bool} {made all : List HardRule} (t : Thinned left made all) (off : List ℕ) (k : ℕ) → is_enabled (flags_of (length all) (map (place t) off)) (place t k) ≡ is_enabled (flags_of (length made) off) k
flags_like {left} {made} {all} t off k = elim (cases_lt k (length made)) [
  | inl l ↦ flags_at (length all) (map (place t) off) (place t k) (place_within t k l) ∙ ap not (among_at (place t) (place_rises t) off k) ∙ sym (flags_at (length made) off k l)
  | inr g ↦ flags_beyond (length all) (map (place t) off) (place t k) (place_beyond t k g) ∙ sym (flags_beyond (length made) off k g)
]

spread_many : {left : List Bool} {made all : List HardRule} (t : Thinned left made all) (on : List Bool) → length on ≡ length made → length (spread t on) ≡ length all
spread_many end on e = e
spread_many (same x t) [] e = absurd (omega (arith, e))
spread_many (same x t) (b ∷ on) e = ap suc (spread_many t on (omega (arith, e)))
spread_many (more x own t) on e = ap suc (spread_many t on e)

next_apart : {left : List Bool} {made all : List HardRule} (x : HardRule) (t : Thinned left made all) (j : ℕ) → ((i : ℕ) → place t i ≡ j → ⊥) → (i : ℕ) → place (same x t) i ≡ suc j → ⊥
next_apart x t j apart zero e = omega (arith, e)
next_apart x t j apart (suc i) e = apart i (omega (arith, e))

-- a number of all is the place of a made rule, or of none, and enabled
place_or_none : {left : List Bool} {made all : List HardRule} (t : Thinned left made all) (on : List Bool) (j : ℕ) → j < length all
    → ((i : ℕ) × (place t i ≡ j)) ⊎ ((is_enabled (spread t on) j ≡ true) × ((i : ℕ) → place t i ≡ j → ⊥))
place_or_none end on j h = absurd (omega (arith, h))
place_or_none (same x t) on zero h = inl (0, refl)
place_or_none (same x t) [] (suc j) h = elim (place_or_none t [] j (omega (arith, h))) [ inl m ↦ inl (suc m.0, ap suc m.1) | inr u ↦ inr (u.0, next_apart x t j u.1) ]
place_or_none (same x t) (b ∷ on) (suc j) h = elim (place_or_none t on j (omega (arith, h))) [ inl m ↦ inl (suc m.0, ap suc m.1) | inr u ↦ inr (u.0, next_apart x t j u.1) ]
place_or_none (more x own t) on zero h = inr (refl, λ i e. omega (arith, e))
place_or_none (more x own t) on (suc j) h = elim (place_or_none t on j (omega (arith, h))) [ inl m ↦ inl (m.0, ap suc m.1) | inr u ↦ inr (u.0, λ i e. u.1 i (omega (arith, e))) ]

apart_from : (at : ℕ → ℕ) (off : List ℕ) (j : ℕ) → ((i : ℕ) → at i ≡ j → ⊥) → is_among (map at off) j ≡ false
apart_from at [] j apart = refl
apart_from at (x ∷ off) j apart = or_from (at x == j) (is_among (map at off) j) (false_from_ne_true (at x == j) (λ e. apart x (eqb-true (at x) j e))) (apart_from at off j apart)

-- the flags of all but some made rules, spread, are those of all but these
pub spread_flags : {left : List Bool} {made all : List HardRule} (t : Thinned left made all) (off : List ℕ) → spread t (flags_of (length made) off) ≡ flags_of (length all) (map (place t) off)
spread_flags {left} {made} {all} t off =
    let on : List Bool = flags_of (length made) off in
    let on_all : List Bool = flags_of (length all) (map (place t) off) in
    let many : length (spread t on) ≡ length all = spread_many t on (flags_many (length made) off) in
    same_flags (spread t on) on_all (many ∙ sym (flags_many (length all) (map (place t) off))) (λ k less.
    let low : k < length all = omega (arith, less, many) in
    elim (place_or_none t on k low) [
      | inl m ↦ ap (is_enabled (spread t on)) (sym m.1) ∙ spread_same t on m.0 ∙ sym (flags_like t off m.0) ∙ ap (is_enabled on_all) m.1
      | inr u ↦ u.0 ∙ sym (flags_at (length all) (map (place t) off) k low ∙ ap not (apart_from (place t) off k u.1))
    ])
