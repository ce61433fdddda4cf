-- What asks for nothing because of what is in and out.
use Rattle.std.proofs.Common.{◌≡◌, ℕ, Bool, true, false, not, cond, ◌&&◌, ◌||◌, List, [], ◌∷◌, ◌++◌, eqb, Option, Some, None, inl, inr, refl, sym, ap, ◌∙◌}
use Rattle.std.specs.Prelude.{ℤ, pos, neg_ℤ, flat_map, slice_get}
use Rattle.std.specs.List.{list_all}
use Rattle.std.specs.Option.{option_or}
use Rattle.std.proofs.lemmas.Bool.{cases_Bool, and_parts, and_from, or_cases, or_left, or_right, eqb-true, false≢true}
use Rattle.std.proofs.lemmas.List.Folds.{list_all-append}
use Rattle.solv_pool.specs.Prelude.{when}
use Rattle.solv_trail.specs.Asked.{is_enabled, set_of}
use Rattle.solv_trail.specs.Inner.Numbers.{has}
use Rattle.solv_questions.specs.Questions.{Query, first_ask, is_outside}
use Rattle.solv_questions.specs.Inner.Questions.{first_possible}
use Rattle.solv_plan.specs.declared.plans.Demand.{Demand}
use Rattle.solv_plan.specs.declared.plans.Keep.{Keep}
use Rattle.solv_plan.specs.Inner.Plans.{some_enabled, demand_queries, keep_query, keep_queries}
use Rattle.solv_plan.specs.Inside.{some_inside}
use Rattle.solv_plan.specs.Inner.Settling.{all_outside, demand_quiet, keep_quiet, demands_quiet, keeps_quiet, AreQuiet}
use Rattle.solv_plan.proofs.Joining.{first_ask-append, first_ask-flat_map, met_asks, unmet_none}
use Rattle.solv_plan.proofs.Recalled.{any_more}
use Rattle.solv_list.proofs.Lists.{all_weaker}

or_more : (a b c d : Bool) → (a ≡ true → c ≡ true) → (b ≡ true → d ≡ true) → (a || b) ≡ true → (c || d) ≡ true
or_more a b c d first second h = elim (or_cases a b h) [
  | inl e ↦ or_left c d (first e)
  | inr e ↦ or_right c d (second e)
]

and_more : (a b c d : Bool) → (a ≡ true → c ≡ true) → (b ≡ true → d ≡ true) → (a && b) ≡ true → (c && d) ≡ true
and_more a b c d first second h =
    let both = and_parts a b h in
    and_from c d (first both.0) (second both.1)

module _ (known : ℤ → Bool) where
  none_possible : (xs : List ℕ) → all_outside known xs ≡ true → None ≡ first_possible known xs
  none_possible [] h = refl
  none_possible (x ∷ xs) h =
      let both = and_parts (is_outside known x) (all_outside known xs) h in
      none_possible xs both.1 ∙ sym (ap (λ b. cond (not b) (Some x) (first_possible known xs)) both.0)

  -- a question all of whose candidates are out
  out_asks : (q : Query) → all_outside known q.candidates ≡ true → None ≡ first_ask known (q ∷ [])
  out_asks q h = elim (cases_Bool q.met) [
    | inl met ↦ met_asks known q met
    | inr unmet ↦ unmet_none known q unmet (none_possible q.candidates h)
  ]

  both_out : (b : Bool) (xs ys : List ℕ) → all_outside known xs ≡ true → all_outside known ys ≡ true → all_outside known (xs ++ when b ys) ≡ true
  both_out b xs ys h k = list_all-append (is_outside known) xs (when b ys) ∙ and_from (all_outside known xs) (all_outside known (when b ys)) h (go b)
    where
      go : (c : Bool) → all_outside known (when c ys) ≡ true
      go true = k
      go false = refl

  asked_when : (b : Bool) (q : Query) → None ≡ first_ask known (q ∷ []) → None ≡ first_ask known (when b (q ∷ []))
  asked_when true q h = h
  asked_when false q h = refl

  module _ (enabled : List Bool) where
    pub demand_asks_nothing : (d : Demand) → demand_quiet known d ≡ true → None ≡ first_ask known (demand_queries known enabled d)
    demand_asks_nothing d h = asked_when (is_enabled enabled d.rule) q (elim (or_cases (some_inside known d.candidates) (all_outside known d.candidates) h) [
      | inl e ↦ met_asks known q e
      | inr e ↦ out_asks q e
    ])
      where
        q : Query
        q = record { question = d.question; candidates = d.candidates; met = some_inside known d.candidates }

    demands_ask_nothing : (ds : List Demand) → list_all (demand_quiet known) ds ≡ true → None ≡ first_ask known (flat_map (demand_queries known enabled) ds)
    demands_ask_nothing [] h = refl
    demands_ask_nothing (d ∷ ds) h =
        let both = and_parts (demand_quiet known d) (list_all (demand_quiet known) ds) h in
        demands_ask_nothing ds both.1 ∙ ap (λ a. option_or a (first_ask known (flat_map (demand_queries known enabled) ds))) (demand_asks_nothing d both.0)
        ∙ sym (first_ask-flat_map known (demand_queries known enabled) d ds)

    -- whether it is kept
    kept_asks_nothing : (k : Keep) → (some_inside known k.close || (all_outside known k.close && all_outside known k.far)) ≡ true → None ≡ first_ask known (keep_query known enabled k ∷ [])
    kept_asks_nothing k h = elim (or_cases (some_inside known k.close) (all_outside known k.close && all_outside known k.far) h) [
      | inl e ↦ met_asks known (keep_query known enabled k) (or_left (some_inside known k.close) (not (some_enabled enabled k.updates) && some_inside known k.far) e)
      | inr e ↦ let both = and_parts (all_outside known k.close) (all_outside known k.far) e in
          out_asks (keep_query known enabled k) (both_out (not (some_enabled enabled k.updates) && (k.dup || some_enabled enabled k.features)) k.close k.far both.0 both.1)
    ]

    pub keep_asks_nothing : (k : Keep) → keep_quiet known k ≡ true → None ≡ first_ask known (keep_queries known enabled k)
    keep_asks_nothing k h =
        let both = and_parts (list_all (demand_quiet known) k.best) (not k.is_asked || (some_inside known k.close || (all_outside known k.close && all_outside known k.far))) h in
        kept k.is_asked both.1 ∙ ap (λ a. option_or a (first_ask known (when k.is_asked (keep_query known enabled k ∷ [])))) (demands_ask_nothing k.best both.0)
        ∙ sym (first_ask-append known (flat_map (demand_queries known enabled) k.best) (when k.is_asked (keep_query known enabled k ∷ [])))
      where
        kept : (b : Bool) → (not b || (some_inside known k.close || (all_outside known k.close && all_outside known k.far))) ≡ true → None ≡ first_ask known (when b (keep_query known enabled k ∷ []))
        kept true e = kept_asks_nothing k e
        kept false e = refl

-- where more is known
module _ (before after : ℤ → Bool) (more : (l : ℤ) → before l ≡ true → after l ≡ true) where
  inside_stays : (xs : List ℕ) → some_inside before xs ≡ true → some_inside after xs ≡ true
  inside_stays xs h = any_more (set_of before) (set_of after) (λ p e. or_more (eqb p 0) (before (pos p)) (eqb p 0) (after (pos p)) (λ z. z) (more (pos p)) e) xs h

  outside_stays : (xs : List ℕ) → all_outside before xs ≡ true → all_outside after xs ≡ true
  outside_stays xs h =
      all_weaker (is_outside before) (is_outside after) (λ p e. and_more (not (eqb p 0)) (before (neg_ℤ (pos p))) (not (eqb p 0)) (after (neg_ℤ (pos p))) (λ z. z) (more (neg_ℤ (pos p))) e) xs h

  demand_stays : (d : Demand) → demand_quiet before d ≡ true → demand_quiet after d ≡ true
  demand_stays d h =
      or_more (some_inside before d.candidates) (all_outside before d.candidates) (some_inside after d.candidates) (all_outside after d.candidates) (inside_stays d.candidates) (outside_stays d.candidates) h

  keep_stays : (k : Keep) → keep_quiet before k ≡ true → keep_quiet after k ≡ true
  keep_stays k h =
      and_more (list_all (demand_quiet before) k.best) (not k.is_asked || rest before) (list_all (demand_quiet after) k.best) (not k.is_asked || rest after)
      (all_weaker (demand_quiet before) (demand_quiet after) demand_stays k.best)
      (or_more (not k.is_asked) (rest before) (not k.is_asked) (rest after) (λ z. z)
      (or_more (some_inside before k.close) (out before) (some_inside after k.close) (out after) (inside_stays k.close)
      (and_more (all_outside before k.close) (all_outside before k.far) (all_outside after k.close) (all_outside after k.far) (outside_stays k.close) (outside_stays k.far))))
      h
    where
      out : (ℤ → Bool) → Bool
      out known = all_outside known k.close && all_outside known k.far

      rest : (ℤ → Bool) → Bool
      rest known = some_inside known k.close || (all_outside known k.close && all_outside known k.far)

  pub demands_stay : (demands : List Demand) (i : ℕ) → demands_quiet before demands i ≡ true → demands_quiet after demands i ≡ true
  demands_stay demands i h = go (slice_get demands i) h
    where
      go : (o : Option Demand) → elim o as (λ _. Bool) [ None ↦ true | Some d ↦ demand_quiet before d ] ≡ true → elim o as (λ _. Bool) [ None ↦ true | Some d ↦ demand_quiet after d ] ≡ true
      go None k = refl
      go (Some d) k = demand_stays d k

  pub keeps_stay : (keeps : List Keep) (i : ℕ) → keeps_quiet before keeps i ≡ true → keeps_quiet after keeps i ≡ true
  keeps_stay keeps i h = go (slice_get keeps i) h
    where
      go : (o : Option Keep) → elim o as (λ _. Bool) [ None ↦ true | Some k ↦ keep_quiet before k ] ≡ true → elim o as (λ _. Bool) [ None ↦ true | Some k ↦ keep_quiet after k ] ≡ true
      go None k = refl
      go (Some x) k = keep_stays x k

-- the question of a place that is remembered
pub demand_here : (known : ℤ → Bool) (demands : List Demand) (places : List ℕ) (i : ℕ) (x : Demand) → slice_get demands i ≡ Some x → AreQuiet (demands_quiet known demands) places → has places i ≡ true → demand_quiet known x ≡ true
demand_here known demands places i x at quiet h = ap (λ o. elim o as (λ _. Bool) [ None ↦ true | Some d ↦ demand_quiet known d ]) (sym at) ∙ quiet i h

pub keep_here : (known : ℤ → Bool) (keeps : List Keep) (places : List ℕ) (i : ℕ) (x : Keep) → slice_get keeps i ≡ Some x → AreQuiet (keeps_quiet known keeps) places → has places i ≡ true → keep_quiet known x ≡ true
keep_here known keeps places i x at quiet h = ap (λ o. elim o as (λ _. Bool) [ None ↦ true | Some k ↦ keep_quiet known k ]) (sym at) ∙ quiet i h

-- one place more
more_quiet : (quiet : ℕ → Bool) (before after : List ℕ) (place : ℕ) → ((k : ℕ) → has after k ≡ true → (eqb k place || has before k) ≡ true) → quiet place ≡ true → AreQuiet quiet before → AreQuiet quiet after
more_quiet quiet before after place put here old i h = go (eqb i place) refl (put i h)
  where
    go : (b : Bool) → eqb i place ≡ b → (b || has before i) ≡ true → quiet i ≡ true
    go true e k = ap quiet (eqb-true i place e) ∙ here
    go false e k = old i k

pub demand_put : (known : ℤ → Bool) (before after : List ℕ) (place : ℕ) (x : Demand) → ((k : ℕ) → has after k ≡ true → (eqb k place || has before k) ≡ true) → demand_quiet known x ≡ true
    → (demands : List Demand) → slice_get demands place ≡ Some x → AreQuiet (demands_quiet known demands) before → AreQuiet (demands_quiet known demands) after
demand_put known before after place x put here demands at old =
    more_quiet (demands_quiet known demands) before after place put (ap (λ o. elim o as (λ _. Bool) [ None ↦ true | Some d ↦ demand_quiet known d ]) at ∙ here) old

pub keep_put : (known : ℤ → Bool) (before after : List ℕ) (place : ℕ) (x : Keep) → ((k : ℕ) → has after k ≡ true → (eqb k place || has before k) ≡ true) → keep_quiet known x ≡ true
    → (keeps : List Keep) → slice_get keeps place ≡ Some x → AreQuiet (keeps_quiet known keeps) before → AreQuiet (keeps_quiet known keeps) after
keep_put known before after place x put here keeps at old =
    more_quiet (keeps_quiet known keeps) before after place put (ap (λ o. elim o as (λ _. Bool) [ None ↦ true | Some k ↦ keep_quiet known k ]) at ∙ here) old

-- no place
pub none_quiet : (quiet : ℕ → Bool) (places : List ℕ) → ((k : ℕ) → has places k ≡ false) → AreQuiet quiet places
none_quiet quiet places none i h = absurd (false≢true (sym (none i) ∙ h))
