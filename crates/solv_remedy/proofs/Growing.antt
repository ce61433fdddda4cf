-- What is held to grows, step by step.
use Rattle.std.proofs.Common.{◌≡◌, ◌⊎◌, ◌<◌, ◌≤◌, ◌+◌, drop, ℕ, zero, suc, Bool, true, false, not, ◌&&◌, ◌||◌, List, [], ◌∷◌, ◌++◌, inl, inr, refl, sym, ap, ◌∙◌, subst, arith, eq-eqb, length}
use Rattle.std.specs.Prelude.{◌==◌, filter, nat_lt, slice_index}
use Rattle.std.proofs.lemmas.Bool.{and_parts, and_from, or_cases, or_left, or_right, cases_Bool, false≢true, eqb-true, ltb-true, ltb-false}
use Rattle.solv_pool.specs.Prelude.{is_among, is_fact}
use Rattle.solv_derive.specs.Leaves.{leaves}
use Rattle.solv_derive.specs.declared.logs.Log.{Log}
use Rattle.solv_trail.specs.Asked.{is_enabled, set_of}
use Rattle.solv_core.specs.Cores.{CoreOf}
use Rattle.solv_core.specs.GoodTrails.{facts_of}
use Rattle.solv_core.specs.declared.refuting.RefutedRule.{RefutedRule}
use Rattle.solv_core.specs.declared.verdicts.Trail.{Trail}
use Rattle.solv_rules.specs.Books.{Written}
use Rattle.solv_questions.specs.Questions.{Request, rules_of}
use Rattle.solv_list.proofs.Booleans.{or_false}
use Rattle.solv_pool.proofs.Among.{among_filter}
use Rattle.solv_pool.proofs.Members.{among_has, has_among, has_filtered}
use Rattle.solv_decide.specs.Deciding.{IsSolution}
use Rattle.solv_decide.specs.Inner.Deciding.{Asker}
use Rattle.solv_remedy.specs.Problems.{owning, rested_on}
use Rattle.solv_remedy.specs.Inner.Problems.{GoodLogsRefuteTheirRules, owners_of}
use Rattle.solv_remedy.specs.Remedies.{is_once}
use Rattle.solv_remedy.specs.Inner.Trying.{firm_but, is_off_in, IsNeeded, IsSetUp, IsSolvable, MeetsOn}
use Rattle.solv_remedy.specs.Inner.Correcting.{and_one, and_some, is_left, open_count, refuted_rules, AreRefutedBy, IsDropped, IsFoundOn, IsHeldMore, IsParted, IsPartedOf, IsRefutedOn, KeepsParted}
use Rattle.solv_remedy.specs.declared.setting.Setting.{Setting}
use Rattle.solv_remedy.specs.declared.correcting.Looks.{Looks}
use Rattle.solv_remedy.specs.declared.correcting.Parted.{Parted}
use Rattle.solv_remedy.proofs.Fewer.{few, fewer}
use Rattle.solv_remedy.proofs.Fronts.{among_more, next_one}
use Rattle.solv_remedy.proofs.Numbered.{enabled_met, solvable_narrower}
use Rattle.solv_remedy.proofs.Probed.{refuted_over}
use Rattle.solv_remedy.proofs.Rising.{rises_filtered, rises_folded, rises_once}
use Rattle.solv_remedy.proofs.Switched.{entry_within, fixed_but}
use Rattle.solv_remedy.proofs.Tried.{fixed_is, owners_within, size_is}

-- a table says of a rule that it is off, where it does not say that it is on
pub off_or_on : (table : List Bool) (k : ℕ) → k < length table → is_enabled table k ≡ false → is_off_in table k ≡ true
off_or_on [] k less h = absurd (omega (arith, less))
off_or_on (b ∷ table) zero less h = ap not h
off_or_on (b ∷ table) (suc k) less h = off_or_on table k (omega (arith, less)) h

pub rules_both : (dropped more : List RefutedRule) → refuted_rules (dropped ++ more) ≡ refuted_rules dropped ++ refuted_rules more
rules_both [] more = refl
rules_both (one ∷ dropped) more = ap (λ l. one.rule ∷ l) (rules_both dropped more)

-- a rule is among dropped ones and one more
pub names_more : (dropped : List RefutedRule) (one : RefutedRule) (k : ℕ) → is_among (refuted_rules (dropped ++ one ∷ [])) k ≡ (is_among (refuted_rules dropped) k || (one.rule == k))
names_more dropped one k =
    ap (λ l. is_among l k) (rules_both dropped (one ∷ [])) ∙ among_more (refuted_rules dropped) (one.rule ∷ []) k ∙ ap (λ b. is_among (refuted_rules dropped) k || b) (or_false (one.rule == k))

-- how many rules are open where these are closed
module _ (old new : Parted) (same : new.rules.items ≡ old.rules.items) (closed : List ℕ) (opened : (k : ℕ) → is_enabled new.open.items k ≡ (is_enabled old.open.items k && not (is_among closed k))) where
  narrower : (k : ℕ) → is_enabled new.open.items k ≡ true → is_enabled old.open.items k ≡ true
  narrower k on = (and_parts (is_enabled old.open.items k) (not (is_among closed k)) (sym (opened k) ∙ on)).0

  pub open_few : open_count new ≤ open_count old
  open_few =
      let P : List ℕ → Type 0 = λ l. length (filter (is_enabled new.open.items) l) ≤ open_count old in
      subst P (sym same) (few (is_enabled old.open.items) (is_enabled new.open.items) narrower old.rules.items)

  pub open_fewer : (k : ℕ) → is_among old.rules.items k ≡ true → is_enabled old.open.items k ≡ true → is_among closed k ≡ true → open_count new < open_count old
  open_fewer k there on gone =
      let P : List ℕ → Type 0 = λ l. length (filter (is_enabled new.open.items) l) < open_count old in
      subst P (sym same) (fewer (is_enabled old.open.items) (is_enabled new.open.items) narrower old.rules.items k there on
      (opened k ∙ ap (λ b. is_enabled old.open.items k && not b) gone ∙ none (is_enabled old.open.items k)))
    where
      none : (b : Bool) → (b && false) ≡ false
      none true = refl
      none false = refl

-- one is open at least
pub open_some : (p : Parted) (k : ℕ) → is_among p.rules.items k ≡ true → is_enabled p.open.items k ≡ true → 0 < open_count p
open_some p k there on = by (filter (is_enabled p.open.items) p.rules.items) (among_filter (is_enabled p.open.items) p.rules.items k ∙ and_from (is_among p.rules.items k) (is_enabled p.open.items k) there on)
  where
    by : (ys : List ℕ) → is_among ys k ≡ true → 0 < length ys
    by [] g = absurd (false≢true g)
    by (y ∷ ys) g = omega arith

-- the trail of a run gives a set
pub solvable_on : (r : Request) (enabled : List Bool) (trail : Trail) → IsSolution r enabled trail → IsSolvable r (is_enabled enabled)
solvable_on r enabled trail found =
    let set = set_of (is_fact (facts_of trail.events)) in
    record { set = set; system = refl; meets = enabled_met r set enabled found.meets }

-- where these are held to, what a table of all this has is held to
module _ (more : List ℕ) (old new : Parted) (h : IsHeldMore more old new) where
  held_is : (k : ℕ) → is_enabled new.held.items k ≡ true → (is_enabled old.held.items k || is_among more k) ≡ true
  held_is k on = (let inside = entry_within new.held.items k on in let size = h.held_size in sym (h.held k (omega (arith, inside, size))) ∙ on)

  pub and_solvable : (r : Request) (enabled : List Bool) → ((k : ℕ) → k < length old.held.items → is_enabled enabled k ≡ (is_enabled old.held.items k || is_among more k)) → IsSolvable r (is_enabled enabled) → IsSolvable r (is_enabled new.held.items)
  and_solvable r enabled on = solvable_narrower r (is_enabled new.held.items) (is_enabled enabled) (λ k x at g. let inside = entry_within new.held.items k g in let size = h.held_size in on k (omega (arith, inside, size)) ∙ held_is k g)

  -- the set of what was held to meets these
  pub met_solvable : (r : Request) (trail : Trail) → IsSolution r old.held.items trail → MeetsOn r (is_among more) (set_of (is_fact (facts_of trail.events))) → IsSolvable r (is_enabled new.held.items)
  met_solvable r trail found met = record {
    set = set_of (is_fact (facts_of trail.events));
    system = refl;
    meets = λ k x at g. elim (or_cases (is_enabled old.held.items k) (is_among more k) (held_is k g)) [
      | inl was ↦ enabled_met r (set_of (is_fact (facts_of trail.events))) old.held.items found.meets k x at was
      | inr added ↦ met k x at added
    ];
  }

module _ (r : Request) (core : CoreOf) where
  pub refuted_wider : (on more : ℕ → Bool) (log : Log) → ((k : ℕ) → on k ≡ true → more k ≡ true) → IsRefutedOn r core on log → IsRefutedOn r core more log
  refuted_wider on more log wider t = record {
    good = t.good;
    over = t.over;
    within = t.within;
    rests = λ k h. wider k (t.rests k h);
    none = λ set system meets. t.none set system (λ k x at h. meets k x at (wider k h));
  }

  one_wider : (on more : ℕ → Bool) (rule : ℕ) → ((k : ℕ) → on k ≡ true → more k ≡ true) → (k : ℕ) → and_one on rule k ≡ true → and_one more rule k ≡ true
  one_wider on more rule wider k h = elim (or_cases (on k) (rule == k) h) [
    | inl a ↦ or_left (more k) (rule == k) (wider k a)
    | inr e ↦ or_right (more k) (rule == k) e
  ]

  -- what is refuted stays so where more is on
  pub all_wider : (on more : ℕ → Bool) → ((k : ℕ) → on k ≡ true → more k ≡ true) → (dropped : List RefutedRule) → AreRefutedBy r core on dropped → AreRefutedBy r core more dropped
  all_wider on more wider [] h = h
  all_wider on more wider (one ∷ dropped) h = (refuted_wider (and_one on one.rule) (and_one more one.rule) one.log (one_wider on more one.rule wider) h.0, all_wider on more wider dropped h.1)

  pub all_and : (on : ℕ → Bool) (dropped : List RefutedRule) (one : RefutedRule) → AreRefutedBy r core on dropped → IsRefutedOn r core (and_one on one.rule) one.log → AreRefutedBy r core on (dropped ++ one ∷ [])
  all_and on [] one h t = (t, tt)
  all_and on (x ∷ dropped) one h t = (h.0, all_and on dropped one h.1 t)

  -- a run of what is held to and of one rule
  pub one_refuted : (rule : ℕ) (p : Parted) (enabled : List Bool) (log : Log) → length enabled ≡ length p.held.items → ((k : ℕ) → k < length p.held.items → is_enabled enabled k ≡ (is_enabled p.held.items k || is_among (rule ∷ []) k))
      → IsRefutedOn r core (is_enabled enabled) log → IsRefutedOn r core (and_one (is_enabled p.held.items) rule) log
  one_refuted rule p enabled log size on t = refuted_wider (is_enabled enabled) (and_one (is_enabled p.held.items) rule) log wider t
    where
      wider : (k : ℕ) → is_enabled enabled k ≡ true → and_one (is_enabled p.held.items) rule k ≡ true
      wider k h =
          let inside = entry_within enabled k h in
          ap (λ b. is_enabled p.held.items k || b) (sym (or_false (rule == k))) ∙ sym (on k (omega (arith, inside, size))) ∙ h

  module _ (fixed : List Bool) (firm : ℕ → Bool) (rules : List ℕ) where
    -- the fixed rules are among what is held to and more
    pub and_fixed : (more : List ℕ) (p : Parted) → IsParted r core fixed firm rules p → (enabled : List Bool) → ((k : ℕ) → k < length p.held.items → is_enabled enabled k ≡ (is_enabled p.held.items k || is_among more k)) → (k : ℕ) → is_enabled fixed k ≡ true → is_enabled enabled k ≡ true
    and_fixed more p parted enabled on k h = (let held = parted.fixed_held k h in on k (entry_within p.held.items k held) ∙ or_left (is_enabled p.held.items k) (is_among more k) held)

    -- open rules are held to, where a set meets them with all else that is
    module _ (more : List ℕ) (old new : Parted) (p : IsParted r core fixed firm rules old) (were_open : (k : ℕ) → is_among more k ≡ true → is_enabled old.open.items k ≡ true) (h : IsHeldMore more old new) (solvable : IsSolvable r (is_enabled new.held.items)) where
      wider : (k : ℕ) → is_enabled old.held.items k ≡ true → is_enabled new.held.items k ≡ true
      wider k on = h.held k (entry_within old.held.items k on) ∙ or_left (is_enabled old.held.items k) (is_among more k) on

      held_one : (k : ℕ) → is_enabled new.held.items k ≡ true → (firm k || is_among rules k) ≡ true
      held_one k on =
          let inside = entry_within new.held.items k on in
          let size = h.held_size in
          elim (or_cases (is_enabled old.held.items k) (is_among more k) (sym (h.held k (omega (arith, inside, size))) ∙ on)) [
            | inl was ↦ p.held_of k was
            | inr added ↦ or_right (firm k) (is_among rules k) (p.open_of k (were_open k added))
          ]

      left_one : (k : ℕ) → k < length fixed → is_left old k ≡ true → is_left new k ≡ true
      left_one k less on = elim (or_cases (is_enabled old.held.items k) (is_enabled old.open.items k) on) [
        | inl was ↦ or_left (is_enabled new.held.items k) (is_enabled new.open.items k) (wider k was)
        | inr open_ ↦ elim (cases_Bool (is_among more k)) [
          | inl added ↦ (let size = p.held_size in or_left (is_enabled new.held.items k) (is_enabled new.open.items k) (h.held k (omega (arith, less, size)) ∙ or_right (is_enabled old.held.items k) (is_among more k) added))
          | inr not_added ↦ or_right (is_enabled new.held.items k) (is_enabled new.open.items k) (h.opened k ∙ and_from (is_enabled old.open.items k) (not (is_among more k)) open_ (ap not not_added))
        ]
      ]

      pub held_more : IsParted r core fixed firm rules new
      held_more = record {
        same = h.same ∙ p.same;
        held_size = h.held_size ∙ p.held_size;
        open_size = h.open_size ∙ p.open_size;
        fixed_held = λ k f. wider k (p.fixed_held k f);
        firm_held = λ k less f. wider k (p.firm_held k less f);
        held_of = held_one;
        open_of = λ k on. p.open_of k (and_parts (is_enabled old.open.items k) (not (is_among more k)) (sym (h.opened k) ∙ on)).0;
        dropped_of = λ k d. p.dropped_of k (ap (λ l. is_among (refuted_rules l) k) (sym h.dropped) ∙ d);
        all = λ k less there. elim (or_cases (is_left old k) (is_among (refuted_rules old.dropped.items) k) (p.all k less there)) [
          | inl on ↦ or_left (is_left new k) (is_among (refuted_rules new.dropped.items) k) (left_one k less on)
          | inr d ↦ or_right (is_left new k) (is_among (refuted_rules new.dropped.items) k) (ap (λ l. is_among (refuted_rules l) k) h.dropped ∙ d)
        ];
        solvable = solvable;
        refuted =
            let P : List RefutedRule → Type 0 = λ l. AreRefutedBy r core (is_enabled new.held.items) l in
            subst P (sym h.dropped) (all_wider (is_enabled old.held.items) (is_enabled new.held.items) wider old.dropped.items p.refuted);
      }

    -- an open rule is dropped, which what is held to refutes
    module _ (one : RefutedRule) (old new : Parted) (p : IsParted r core fixed firm rules old) (was_open : is_enabled old.open.items one.rule ≡ true) (d : IsDropped one old new)
        (log : IsRefutedOn r core (and_one (is_enabled old.held.items) one.rule) one.log) where
      names : (k : ℕ) → is_among (refuted_rules new.dropped.items) k ≡ (is_among (refuted_rules old.dropped.items) k || (one.rule == k))
      names k = ap (λ l. is_among (refuted_rules l) k) d.dropped ∙ names_more old.dropped.items one k

      all_one : (k : ℕ) → k < length fixed → is_among rules k ≡ true → (is_left new k || is_among (refuted_rules new.dropped.items) k) ≡ true
      all_one k less there = elim (cases_Bool (one.rule == k)) [
        | inl e ↦ or_right (is_left new k) (is_among (refuted_rules new.dropped.items) k) (names k ∙ or_right (is_among (refuted_rules old.dropped.items) k) (one.rule == k) e)
        | inr n ↦ elim (or_cases (is_left old k) (is_among (refuted_rules old.dropped.items) k) (p.all k less there)) [
          | inr was ↦ or_right (is_left new k) (is_among (refuted_rules new.dropped.items) k) (names k ∙ or_left (is_among (refuted_rules old.dropped.items) k) (one.rule == k) was)
          | inl on ↦ or_left (is_left new k) (is_among (refuted_rules new.dropped.items) k) (elim (or_cases (is_enabled old.held.items k) (is_enabled old.open.items k) on) [
            | inl held ↦ or_left (is_enabled new.held.items k) (is_enabled new.open.items k) (ap (λ l. is_enabled l k) d.held ∙ held)
            | inr open_ ↦ or_right (is_enabled new.held.items k) (is_enabled new.open.items k) (d.opened k ∙ and_from (is_enabled old.open.items k) (not (is_among (one.rule ∷ []) k)) open_ (ap (λ b. not (b || false)) n))
          ])
        ]
      ]

      pub dropped_more : IsParted r core fixed firm rules new
      dropped_more = record {
        same = d.same ∙ p.same;
        held_size = ap length d.held ∙ p.held_size;
        open_size = d.open_size ∙ p.open_size;
        fixed_held = λ k f. ap (λ l. is_enabled l k) d.held ∙ p.fixed_held k f;
        firm_held = λ k less f. ap (λ l. is_enabled l k) d.held ∙ p.firm_held k less f;
        held_of = λ k on. p.held_of k (ap (λ l. is_enabled l k) (sym d.held) ∙ on);
        open_of = λ k on. p.open_of k (and_parts (is_enabled old.open.items k) (not (is_among (one.rule ∷ []) k)) (sym (d.opened k) ∙ on)).0;
        dropped_of = λ k h. elim (or_cases (is_among (refuted_rules old.dropped.items) k) (one.rule == k) (sym (names k) ∙ h)) [
          | inl was ↦ p.dropped_of k was
          | inr e ↦ ap (is_among rules) (sym (eqb-true one.rule k e)) ∙ p.open_of one.rule was_open
        ];
        all = all_one;
        solvable = (let P : List Bool → Type 0 = λ l. IsSolvable r (is_enabled l) in subst P (sym d.held) p.solvable);
        refuted =
            let P : List Bool → List RefutedRule → Type 0 = λ h l. AreRefutedBy r core (is_enabled h) l in
            subst (λ l. P new.held.items l) (sym d.dropped) (subst (λ h. P h (old.dropped.items ++ one ∷ [])) (sym d.held) (all_and (is_enabled old.held.items) old.dropped.items one p.refuted log));
      }

    -- whether looks are made has no say
    pub looked : (p : Parted) (looks : Looks) → IsParted r core fixed firm rules p → IsParted r core fixed firm rules (record p { looks = looks })
    looked p looks h = record {
      same = h.same;
      held_size = h.held_size;
      open_size = h.open_size;
      fixed_held = h.fixed_held;
      firm_held = h.firm_held;
      held_of = h.held_of;
      open_of = h.open_of;
      dropped_of = h.dropped_of;
      all = h.all;
      solvable = h.solvable;
      refuted = h.refuted;
    }

    -- a table of what is held to and open
    module _ (p : Parted) (parted : IsParted r core fixed firm rules p) (left : List Bool) (size : length left ≡ length p.held.items)
        (on : (k : ℕ) → k < length p.held.items → is_enabled left k ≡ (is_enabled p.held.items k || is_among (filter (is_enabled p.open.items) p.rules.items) k)) where
      left_is : (k : ℕ) → k < length p.held.items → is_enabled left k ≡ is_left p k
      left_is k less = on k less ∙ ap (λ b. is_enabled p.held.items k || b) (among_filter (is_enabled p.open.items) p.rules.items k ∙ inside (is_among p.rules.items k) (is_enabled p.open.items k) (λ o. ap (λ l. is_among l k) parted.same ∙ parted.open_of k o))
        where
          inside : (a b : Bool) → (b ≡ true → a ≡ true) → (a && b) ≡ b
          inside true b h = refl
          inside false true h = h refl
          inside false false h = refl

      pub left_fixed : (k : ℕ) → is_enabled fixed k ≡ true → is_enabled left k ≡ true
      left_fixed k h = (let held = parted.fixed_held k h in left_is k (entry_within p.held.items k held) ∙ or_left (is_enabled p.held.items k) (is_enabled p.open.items k) held)

      pub left_on : (k : ℕ) → is_enabled left k ≡ true → is_left p k ≡ true
      left_on k h = (let inside = entry_within left k h in sym (left_is k (omega (arith, inside, size))) ∙ h)

      pub left_found : length fixed ≡ length (rules_of r) → (trail : Trail) → IsSolution r left trail → IsFoundOn r (is_left p) trail
      left_found many trail found = record {
        enabled = left;
        size = size ∙ parted.held_size ∙ many;
        agrees = λ k. elim (cases_Bool (nat_lt k (length (rules_of r)))) [
          | inl below ↦ (let less = ltb-true k (length (rules_of r)) below in let long = parted.held_size in inr (left_is k (omega (arith, less, long, many))))
          | inr beyond ↦ inl (ltb-false k (length (rules_of r)) beyond)
        ];
        found = found;
      }

module _ (r : Request) (asker : Asker) (core : CoreOf) (book : Written) (fixed : List Bool) (up : IsSetUp r asker core book fixed) where
  -- at the beginning every rule is open
  pub begun : (own : List ℕ) (off : ℕ) (rules : List ℕ) (p : Parted) → is_off_in fixed off ≡ true → IsNeeded r own off → p.rules.items ≡ rules → length p.held.items ≡ length fixed
      → ((k : ℕ) → k < length fixed → is_enabled p.held.items k ≡ ((is_enabled fixed k || is_among own k) && not (k == off))) → length p.open.items ≡ length fixed
      → ((k : ℕ) → k < length fixed → is_enabled p.open.items k ≡ is_among rules k) → p.dropped.items ≡ [] → IsParted r core fixed (firm_but r own off) rules p
  begun own off rules p free needed same size on open_size opened none = record {
    same = same;
    held_size = size;
    open_size = open_size;
    fixed_held = fixed_but fixed p.held.items own off free on;
    firm_held = λ k less f. firm_is k less ∙ f;
    held_of = λ k h. or_left (firm_but r own off k) (is_among rules k) (is_firm k h);
    open_of = λ k h. (let inside = entry_within p.open.items k h in sym (opened k (omega (arith, inside, open_size))) ∙ h);
    dropped_of = λ k h. absurd (false≢true (ap (λ l. is_among (refuted_rules l) k) (sym none) ∙ h));
    all = λ k less there. or_left (is_left p k) (is_among (refuted_rules p.dropped.items) k) (or_right (is_enabled p.held.items k) (is_enabled p.open.items k) (opened k less ∙ there));
    solvable = record { set = needed.set; system = needed.system; meets = λ k x at h. needed.meets k x at (is_firm k h) };
    refuted = (let P : List RefutedRule → Type 0 = λ l. AreRefutedBy r core (is_enabled p.held.items) l in subst P (sym none) tt);
  }
    where
      firm_is : (k : ℕ) → k < length fixed → is_enabled p.held.items k ≡ firm_but r own off k
      firm_is k less = on k less ∙ ap (λ b. (b || is_among own k) && not (k == off)) (fixed_is r asker core book fixed up k)

      is_firm : (k : ℕ) → is_enabled p.held.items k ≡ true → firm_but r own off k ≡ true
      is_firm k h = (let inside = entry_within p.held.items k h in sym (firm_is k (omega (arith, inside, size))) ∙ h)

  -- a core rests on what is held to and on its open rules
  module _ (law : GoodLogsRefuteTheirRules) (other : Request) (firm : ℕ → Bool) (rules : List ℕ) (p : Parted) (parted : IsParted other core fixed firm rules p) (log : Log) where
    pub core_some : (named some : List ℕ) → named ≡ filter (is_off_in fixed) (owning book.owners (leaves log.steps)) → some ≡ filter (is_enabled p.open.items) named → IsRefutedOn r core (is_left p) log → IsRefutedOn r core (and_some p some) log
    core_some named some e f t = refuted_over r asker core book fixed up law (is_left p) (and_some p some) log only t
      where
        only : (k : ℕ) → is_among (rested_on r.catalog (rules_of r) log.steps) k ≡ true → is_left p k ≡ true → and_some p some k ≡ true
        only k there on = elim (or_cases (is_enabled p.held.items k) (is_enabled p.open.items k) on) [
          | inl held ↦ or_left (is_enabled p.held.items k) (is_among some k) held
          | inr open_ ↦ elim (cases_Bool (is_enabled fixed k)) [
            | inl f ↦ or_left (is_enabled p.held.items k) (is_among some k) (parted.fixed_held k f)
            | inr n ↦
                let inside = entry_within p.open.items k open_ in
                let size = parted.open_size in
                let free = off_or_on fixed k (omega (arith, inside, size)) n in
                let owners : owning book.owners (leaves log.steps) ≡ rested_on r.catalog (rules_of r) log.steps = ap (λ o. owning o (leaves log.steps)) (up.owners ∙ up.asked.owners) in
                let is_named : is_among named k ≡ true =
                ap (λ l. is_among l k) e ∙ among_filter (is_off_in fixed) (owning book.owners (leaves log.steps)) k ∙ and_from (is_among (owning book.owners (leaves log.steps)) k) (is_off_in fixed k) (ap (λ l. is_among l k) owners ∙ there) free in
                or_right (is_enabled p.held.items k) (is_among some k) (ap (λ l. is_among l k) f ∙ among_filter (is_enabled p.open.items) named k ∙ and_from (is_among named k) (is_enabled p.open.items k) is_named open_)
          ]
        ]

-- the next of some rules is open
pub open_at : (some : List ℕ) (i last : ℕ) (p : Parted) → ((k : ℕ) → is_among (drop i some ++ last ∷ []) k ≡ true → is_enabled p.open.items k ≡ true) → i < length some → is_enabled p.open.items (slice_index some i) ≡ true
open_at some i last p opened less =
    let rule = slice_index some i in
    opened rule (ap (λ l. is_among l rule) (next_one some i last less) ∙ or_left (rule == rule) (is_among (drop (i + 1) some ++ last ∷ []) rule) (eq-eqb rule rule refl))

-- the first of some rules is closed: the others are open still
pub next_open : (rule : ℕ) (rest : List ℕ) (old new : Parted) → is_once (rule ∷ rest) ≡ true → ((k : ℕ) → is_among (rule ∷ rest) k ≡ true → is_enabled old.open.items k ≡ true)
    → ((k : ℕ) → is_enabled new.open.items k ≡ (is_enabled old.open.items k && not (is_among (rule ∷ []) k))) → (k : ℕ) → is_among rest k ≡ true → is_enabled new.open.items k ≡ true
next_open rule rest old new once were opened k h = opened k ∙ and_from (is_enabled old.open.items k) (not (is_among (rule ∷ []) k)) (were k (or_right (rule == k) (is_among rest k) h)) (elim (cases_Bool (rule == k)) [
  | inr other ↦ ap (λ b. not (b || false)) other
  | inl same ↦ absurd (false≢true (ap not (sym (ap (is_among rest) (eqb-true rule k same) ∙ h)) ∙ (and_parts (not (is_among rest rule)) (is_once rest) once).0))
])

module _ (r : Request) (core : CoreOf) (log : Log) where
  -- the first of them is held to
  pub next_refuted : (rule : ℕ) (rest : List ℕ) (old new : Parted) → rule < length old.held.items → IsHeldMore (rule ∷ []) old new → IsRefutedOn r core (and_some old (rule ∷ rest)) log → IsRefutedOn r core (and_some new rest) log
  next_refuted rule rest old new less h t = refuted_wider r core (and_some old (rule ∷ rest)) (and_some new rest) log wider t
    where
      wider : (k : ℕ) → and_some old (rule ∷ rest) k ≡ true → and_some new rest k ≡ true
      wider k on = elim (or_cases (is_enabled old.held.items k) (is_among (rule ∷ rest) k) on) [
        | inl was ↦ or_left (is_enabled new.held.items k) (is_among rest k) (h.held k (entry_within old.held.items k was) ∙ or_left (is_enabled old.held.items k) (is_among (rule ∷ []) k) was)
        | inr more ↦ elim (or_cases (rule == k) (is_among rest k) more) [
          | inr later ↦ or_right (is_enabled new.held.items k) (is_among rest k) later
          | inl e ↦
              let same : rule ≡ k = eqb-true rule k e in
              or_left (is_enabled new.held.items k) (is_among rest k) (h.held k (omega (arith, less, same)) ∙ or_right (is_enabled old.held.items k) (is_among (rule ∷ []) k) (ap (λ b. b || false) e))
        ]
      ]

  -- the last one is refuted by what is held to
  pub last_refuted : (rule : ℕ) (p : Parted) → IsRefutedOn r core (and_some p (rule ∷ [])) log → IsRefutedOn r core (and_one (is_enabled p.held.items) rule) log
  last_refuted rule p t = refuted_wider r core (and_some p (rule ∷ [])) (and_one (is_enabled p.held.items) rule) log (λ k on. ap (λ b. is_enabled p.held.items k || b) (sym (or_false (rule == k))) ∙ on) t

  -- there is one, since what is held to has a set
  pub some_open : (p : Parted) → IsSolvable r (is_enabled p.held.items) → IsRefutedOn r core (and_some p []) log → ⊥
  some_open p s t = t.none s.set s.system (λ k x at h. s.meets k x at (sym (or_false (is_enabled p.held.items k)) ∙ h))

-- the open rules of a core are there once
pub core_once : (p q : ℕ → Bool) (owners clauses named some : List ℕ) → named ≡ filter p (owning owners clauses) → some ≡ filter q named → is_once some ≡ true
core_once p q owners clauses named some e f =
    ap is_once f ∙ ap (λ l. is_once (filter q l)) e ∙ rises_once 0 (filter q (filter p (owning owners clauses))) (rises_filtered q 0 (filter p (owning owners clauses)) (rises_filtered p 0 (owning owners clauses) (rises_folded (owners_of owners clauses) [] refl)))

-- what steps keep, one after another
module _ (s : Setting) where
  pub parted_same : (core mid : CoreOf) (p : Parted) → mid ≡ core → IsPartedOf s core p → IsPartedOf s mid p
  parted_same core mid p same = let P : CoreOf → Type 0 = λ v. IsPartedOf s v p in subst P (sym same)

  pub parted_then : (core : CoreOf) (old new : Parted) → IsPartedOf s core old → KeepsParted s core old new → IsPartedOf s core new
  parted_then core old new p kept = record { request = p.request; firm = p.firm; rules = p.rules; up = p.up; parted = kept p.request p.firm p.rules p.up p.parted }

  -- one rule is open at least, where one is
  pub still_open : (core : CoreOf) (p : Parted) → IsPartedOf s core p → (rule : ℕ) → is_enabled p.open.items rule ≡ true → 0 < open_count p
  still_open core p h rule on = open_some p rule (ap (λ l. is_among l rule) h.parted.same ∙ h.parted.open_of rule on) on

  pub kept_then : (core mid : CoreOf) (a b c : Parted) → mid ≡ core → KeepsParted s core a b → KeepsParted s mid b c → KeepsParted s core a c
  kept_then core mid a b c same f g r firm rules up p = (let P : CoreOf → Type 0 = λ v. KeepsParted s v b c in (subst P same g) r firm rules up (f r firm rules up p))
