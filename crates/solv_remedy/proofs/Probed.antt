-- What a log shows, said by the numbers of rules.
use Rattle.std.proofs.Common.{◌≡◌, ℕ, Bool, true, ◌&&◌, ◌||◌, List, [], ◌∷◌, Some, None, inl, inr, false, sym, ap, ◌∙◌, arith, eq-eqb, length}
use Rattle.std.specs.Prelude.{◌==◌, filter, nat_lt, slice_get}
use Rattle.std.specs.List.{enumerate_from}
use Rattle.std.proofs.lemmas.Bool.{and_parts, or_cases, or_left, or_right, eqb-true}
use Rattle.solv_pool.specs.Prelude.{HardRule, meets_rule, is_among}
use Rattle.solv_derive.specs.Leaves.{leaves}
use Rattle.solv_derive.specs.Logs.{is_good_log}
use Rattle.solv_derive.specs.Range.{steps_over}
use Rattle.solv_derive.specs.declared.logs.Log.{Log}
use Rattle.solv_trail.specs.Asked.{is_enabled}
use Rattle.solv_trail.specs.Propagated.{in_use}
use Rattle.solv_core.specs.Cores.{CoreOf}
use Rattle.solv_core.specs.Inner.Contradictions.{is_of, IsRefutedRule, AreRefuted}
use Rattle.solv_core.specs.declared.refuting.RefutedRule.{RefutedRule}
use Rattle.solv_rules.specs.Books.{Written, owners_from}
use Rattle.solv_questions.specs.Questions.{Request, rules_of}
use Rattle.solv_pool.proofs.Members.{Has, of_filtered, of_mapped, all_by, all_at, among_has}
use Rattle.solv_decide.specs.Deciding.{IsRefuted}
use Rattle.solv_decide.specs.Inner.Deciding.{Asker}
use Rattle.solv_remedy.specs.Problems.{rested_on}
use Rattle.solv_remedy.specs.Inner.Problems.{GoodLogsRefuteTheirRules, listed_rules}
use Rattle.solv_remedy.specs.Inner.Trying.{IsUnsolvable, IsSetUp}
use Rattle.solv_remedy.specs.Inner.Correcting.{and_one, AreRefutedBy, IsRefutedOn}
use Rattle.solv_remedy.proofs.Numbered.{met_enabled, owns}
use Rattle.solv_remedy.proofs.Tried.{leaves_within, numbered_at, rested_enabled}
use Rattle.solv_list.proofs.Lists.{all_weaker}

module _ (r : Request) (asker : Asker) (core : CoreOf) (book : Written) (fixed : List Bool) (up : IsSetUp r asker core book fixed) (law : GoodLogsRefuteTheirRules) where
  -- rules among which a good log rests have no set
  pub unsolvable_by : (on : ℕ → Bool) (log : Log) → is_good_log core.clauses log.steps ≡ true → steps_over core.packages log.steps ≡ true
      → ((k : ℕ) → is_among (rested_on r.catalog (rules_of r) log.steps) k ≡ true → on k ≡ true) → IsUnsolvable r on
  unsolvable_by on log good over rests set system meets =
      law r.catalog (rules_of r) log.steps up.bookable (ap (λ n. steps_over n log.steps) (sym up.asked.count) ∙ over) (ap (λ cs. is_good_log cs log.steps) (sym up.asked.clauses) ∙ good) set system
      (all_by (λ x. meets_rule r.catalog x set) (listed_rules (rules_of r) (rested_on r.catalog (rules_of r) log.steps)) each)
    where
      each : (x : HardRule) → Has (listed_rules (rules_of r) (rested_on r.catalog (rules_of r) log.steps)) x → meets_rule r.catalog x set ≡ true
      each x h =
          let names = rested_on r.catalog (rules_of r) log.steps in
          let m = of_mapped (λ (p : ℕ × HardRule). p.1) (filter (λ (p : ℕ × HardRule). is_among names p.0) (enumerate_from 0 (rules_of r))) x h in
          let f = of_filtered (λ (p : ℕ × HardRule). is_among names p.0) (enumerate_from 0 (rules_of r)) m.0 m.1.0 in
          let n = numbered_at 0 (rules_of r) m.0 f.0 in
          let k : m.0.0 ≡ n.0 = omega (arith, n.1.1) in
          ap (λ y. meets_rule r.catalog y set) (sym m.1.1) ∙ meets n.0 m.0.1 n.1.0 (rests n.0 (ap (is_among names) (sym k) ∙ f.1))

  -- a run that is refuted
  pub refuted_on : (enabled : List Bool) (log : Log) → IsRefuted r enabled core log → IsRefutedOn r core (is_enabled enabled) log
  refuted_on enabled log refuted = record {
    good = refuted.good;
    over = refuted.over;
    within = leaves_within core.clauses core.owners enabled (leaves log.steps) refuted.rests;
    rests = λ k h. rested_enabled r asker core book fixed up enabled law log refuted k (among_has (rested_on r.catalog (rules_of r) log.steps) k h);
    none = λ set system meets. refuted.none set system (met_enabled r set enabled meets);
  }

  -- a log that rests on no other rules
  pub refuted_over : (on more : ℕ → Bool) (log : Log) → ((k : ℕ) → is_among (rested_on r.catalog (rules_of r) log.steps) k ≡ true → on k ≡ true → more k ≡ true) → IsRefutedOn r core on log → IsRefutedOn r core more log
  refuted_over on more log wider t = record {
    good = t.good;
    over = t.over;
    within = t.within;
    rests = λ k h. wider k h (t.rests k h);
    none = unsolvable_by more log t.good t.over (λ k h. wider k h (t.rests k h));
  }

  module _ (enabled : List Bool) (asked : List ℕ) where
    -- what a look refutes
    one_by : (one : RefutedRule) → IsRefutedRule core.clauses core.owners core.packages enabled asked one → IsRefutedOn r core (and_one (is_enabled enabled) one.rule) one.log
    one_by one t = record {
      good = t.log.good;
      over = t.log.over;
      within = all_weaker (λ n. nat_lt n (length core.clauses) && (in_use core.owners enabled n || is_of core.owners one.rule n)) (λ n. nat_lt n (length core.clauses)) (λ n h. (and_parts (nat_lt n (length core.clauses)) (in_use core.owners enabled n || is_of core.owners one.rule n) h).0) (leaves one.log.steps) t.log.rests;
      rests = rests;
      none = unsolvable_by (and_one (is_enabled enabled) one.rule) one.log t.log.good t.log.over rests;
    }
      where
        rests : (k : ℕ) → is_among (rested_on r.catalog (rules_of r) one.log.steps) k ≡ true → and_one (is_enabled enabled) one.rule k ≡ true
        rests k h =
            let o = owns (owners_from r.catalog 0 (rules_of r)) (leaves one.log.steps) k (among_has (rested_on r.catalog (rules_of r) one.log.steps) k h) in
            let at : slice_get core.owners o.0 ≡ Some k = ap (λ l. slice_get l o.0) up.asked.owners ∙ o.1.1 in
            let b = and_parts (nat_lt o.0 (length core.clauses)) (in_use core.owners enabled o.0 || is_of core.owners one.rule o.0) (all_at (λ n. nat_lt n (length core.clauses) && (in_use core.owners enabled n || is_of core.owners one.rule n)) (leaves one.log.steps) o.0 t.log.rests o.1.0) in
            elim (or_cases (in_use core.owners enabled o.0) (is_of core.owners one.rule o.0) b.1) [
              | inl u ↦ or_left (is_enabled enabled k) (one.rule == k) (sym (ap (λ v. elim v as (λ _. Bool) [ None ↦ true | Some owner ↦ is_enabled enabled owner ]) at) ∙ u)
              | inr own_one ↦
                  let same : (k == one.rule) ≡ true = sym (ap (λ v. elim v as (λ _. Bool) [ None ↦ false | Some owner ↦ owner == one.rule ]) at) ∙ own_one in
                  or_right (is_enabled enabled k) (one.rule == k) (eq-eqb one.rule k (sym (eqb-true k one.rule same)))
            ]

    pub all_by_look : (found : List RefutedRule) → AreRefuted core.clauses core.owners core.packages enabled asked found → AreRefutedBy r core (is_enabled enabled) found
    all_by_look [] h = tt
    all_by_look (one ∷ found) h = (one_by one h.0, all_by_look found h.1)
