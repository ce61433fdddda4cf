-- Sets that show that a rule is needed.
use Rattle.std.proofs.Common.{◌≡◌, ◌<◌, ◌≤◌, ◌+◌, ◌∙◌, ℕ, suc, Bool, true, false, not, ◌&&◌, ◌||◌, List, [], ◌∷◌, inl, inr, refl, sym, ap, arith, length}
use Rattle.std.specs.Prelude.{ℤ, pos, ◌==◌, nat_lt, nat_le, filter, Result, Ok, Err, OnOk}
use Rattle.std.specs.List.{list_all, range_with_len}
use Rattle.std.specs.Ordering.{int_eq}
use Rattle.std.proofs.lemmas.Bool.{and_parts, and_from, or_cases, cases_Bool, ltb-true, leb-true}
use Rattle.std.proofs.lemmas.Bool.Decides.{Decides-int_eq, nat_tests}
use Rattle.solv_pool.specs.Prelude.{is_among, is_fact, is_over, names_package}
use Rattle.solv_trail.specs.Asked.{is_enabled, set_of}
use Rattle.solv_core.specs.Cores.{CoreOf}
use Rattle.solv_core.specs.GoodTrails.{facts_of}
use Rattle.solv_core.specs.Inner.Cores.{LearningCore}
use Rattle.solv_core.specs.Inner.Meeting.{set_by}
use Rattle.solv_core.specs.declared.verdicts.Event.{Event}
use Rattle.solv_core.specs.declared.verdicts.Trail.{Trail}
use Rattle.solv_rules.specs.Books.{Written}
use Rattle.solv_questions.specs.Questions.{Request}
use Rattle.solv_list.proofs.Booleans.{same_truth}
use Rattle.solv_pool.proofs.Members.{among_has, has_among, has_filtered, of_filtered}
use Rattle.solv_decide.specs.Deciding.{meets_all, IsSolution}
use Rattle.solv_decide.specs.Inner.Deciding.{Asker}
use Rattle.solv_decide.specs.Sets.{IsSetOf}
use Rattle.solv_remedy.specs.Remedies.{is_fixed_at}
use Rattle.solv_remedy.specs.Inner.Runs.{IsOf}
use Rattle.solv_remedy.specs.Inner.Trying.{fixed_and, IsNeeded, IsSetUp, MeetsOn}
use Rattle.solv_remedy.specs.Inner.Showing.{AreGoodSets, HasGoodSet}
use Rattle.solv_remedy.specs.declared.setting.Setting.{Setting}
use Rattle.solv_remedy.specs.declared.showing.Sets.{Sets}
use Rattle.solv_remedy.proofs.Good.{ranged}
use Rattle.solv_remedy.proofs.Numbered.{enabled_met, met_enabled}
use Rattle.solv_remedy.proofs.Ran.{of_same}
use Rattle.solv_remedy.proofs.Switched.{entry_within}
use Rattle.solv_remedy.proofs.Tried.{fixed_is, within}

-- a set that meets the fixed rules and the others shows that this one is needed
pub shown_needed : (r : Request) (asker : Asker) (core : CoreOf) (book : Written) (fixed : List Bool) (up : IsSetUp r asker core book fixed) (set : ℕ → Bool) → set 0 ≡ true → meets_all r fixed set ≡ true
    → (others : List Bool) (rules : List ℕ) (off : ℕ) → ((k : ℕ) → k < length fixed → is_enabled others k ≡ (is_among rules k && not (k == off))) → meets_all r others set ≡ true → IsNeeded r rules off
shown_needed r asker core book fixed up set system first others rules off on met = record {
  set = set;
  system = system;
  meets = λ k x at h.
      let both = and_parts (fixed_and r rules k) (not (k == off)) h in
      elim (or_cases (is_fixed_at r k) (is_among rules k) both.0) [
        | inl f ↦ enabled_met r set fixed first k x at (fixed_is r asker core book fixed up k ∙ f)
        | inr a ↦ enabled_met r set others met k x at (on k (within r asker core book fixed up k x at) ∙ and_from (is_among rules k) (not (k == off)) a both.1)
      ];
}

-- a set meets these rules, where it meets all that a table has
pub met_over : (r : Request) (asker : Asker) (core : CoreOf) (book : Written) (fixed : List Bool) → IsSetUp r asker core book fixed → (enabled : List Bool) (rules : List ℕ) (set : ℕ → Bool) → ((k : ℕ) → k < length fixed → is_enabled enabled k ≡ is_among rules k)
    → meets_all r enabled set ≡ true → MeetsOn r (is_among rules) set
met_over r asker core book fixed up enabled rules set on met k x at h = enabled_met r set enabled met k x at (on k (within r asker core book fixed up k x at) ∙ h)

-- what a core has learnt has no say
pub good_still : (s : Setting) (old new : LearningCore) (sets : Sets) → new.made ≡ old.made → AreGoodSets s old sets → AreGoodSets s new sets
good_still s old new sets same good r up = good r (of_same r s new.made old.made (sym same) up)

-- what a call leaves where it returns
pub ok_all : {V E : Type 0} (s : Setting) (core : LearningCore) (o : Result V E) (new : Sets) → ((r : Request) → IsOf r s core.made → OnOk o (list_all (λ table. meets_all r s.fixed.now (set_by table.items)) new.tables.items ≡ true)) → OnOk o (AreGoodSets s core new)
ok_all s core (Ok v) new h = h
ok_all s core (Err e) new h = tt

unmarked_beyond : (table : List Bool) (p : ℕ) → length table ≤ p → is_enabled table p ≡ false
unmarked_beyond table p long = elim (cases_Bool (is_enabled table p)) [
  | inl on ↦ (let less = entry_within table p on in absurd (omega (arith, less, long)))
  | inr off ↦ off
]

unknown_beyond : (count p : ℕ) (facts : List ℤ) → is_over count facts ≡ true → count < p → is_fact facts (pos p) ≡ false
unknown_beyond count p [] over far = refl
unknown_beyond count p (l ∷ facts) over far =
    let both = and_parts (names_package count l) (is_over count facts) over in
    elim (cases_Bool (int_eq (pos p) l)) [
      | inl same ↦
          let named : (nat_lt 0 p && nat_le p count) ≡ true = ap (names_package count) ((Decides-int_eq (pos p) l).0 same) ∙ both.0 in
          let few = leb-true p count (and_parts (nat_lt 0 p) (nat_le p count) named).1 in
          absurd (omega (arith, few, far))
      | inr other ↦ ap (λ b. b || is_fact facts (pos p)) other ∙ unknown_beyond count p facts both.1 far
    ]

-- a table that marks the packages of a trail's set gives this set
module _ (events : List Event) (packs : List ℕ) (count : ℕ) (table : List Bool) (is_set : IsSetOf events packs) (over : is_over count (facts_of events) ≡ true)
    (size : length table ≡ count + 1) (on : (p : ℕ) → p < count + 1 → is_enabled table p ≡ is_among packs p) where
  abbrev known : ℕ → Bool
  known = set_of (is_fact (facts_of events))

  abbrev all : List ℕ
  all = range_with_len 0 (suc count)

  is_known : (p : ℕ) → p < count + 1 → is_among packs p ≡ known p
  is_known p less = ap (λ l. is_among l p) (is_set count over) ∙ same_truth (is_among (filter known all) p) (known p)
      (λ h. (of_filtered known all p (among_has (filter known all) p h)).1)
      (λ h. has_among (filter known all) p (has_filtered known all p (ranged 0 (suc count) p (omega arith) (omega (arith, less))) h))

  pub table_is : (p : ℕ) → set_by table p ≡ known p
  table_is p = elim (cases_Bool (p == 0)) [
    | inl e ↦ ap (λ b. b || is_enabled table p) e ∙ sym (ap (λ b. b || is_fact (facts_of events) (pos p)) e)
    | inr e ↦ ap (λ b. b || is_enabled table p) e ∙ elim (cases_Bool (nat_lt p (count + 1))) [
      | inl y ↦ (let less = ltb-true p (count + 1) y in on p less ∙ is_known p less)
      | inr n ↦
          let far : count + 1 ≤ p = grind (arith, nat_tests, n) in
          unmarked_beyond table p (omega (arith, far, size)) ∙ sym (ap (λ b. b || is_fact (facts_of events) (pos p)) e ∙ unknown_beyond count p (facts_of events) over (omega (arith, far)))
    ]
  ]

-- a set that a run of wider rules finds meets the fixed ones
pub found_good : (s : Setting) (core : LearningCore) (enabled : List Bool) (trail : Trail) → ((k : ℕ) → is_enabled s.fixed.now k ≡ true → is_enabled enabled k ≡ true) → ((r : Request) → IsOf r s core.made → IsSolution r enabled trail) → HasGoodSet s core trail
found_good s core enabled trail wider found r up =
    let set = set_of (is_fact (facts_of trail.events)) in
    let solution = found r up in
    (ap (λ n. is_over n (facts_of trail.events)) up.asked.packages ∙ solution.good.over, met_enabled r set s.fixed.now (λ k x at h. enabled_met r set enabled solution.meets k x at (wider k h)))
