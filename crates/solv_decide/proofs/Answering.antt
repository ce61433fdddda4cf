-- What a run answers, said of the questions of a task.
use Rattle.std.proofs.Common.{◌≡◌, ℕ, Bool, true, false, ◌&&◌, List, Option, Some, None, refl, sym, ap, ◌∙◌, subst}
use Rattle.std.proofs.Math.Path.{fun_ext}
use Rattle.std.specs.Prelude.{ℤ, flat_map, length, slice_get, nat_lt, Result, Ok, Err, IfOk}
use Rattle.std.specs.declared.alloc.AllocError.{AllocError}
use Rattle.std.specs.List.{list_all}
use Rattle.std.proofs.lemmas.Bool.{and_parts, false≢true}
use Rattle.solv_pool.specs.Prelude.{rule_clauses, clause_true, all_true, is_fact, HardRule, meets_rule}
use Rattle.solv_pool.specs.Laws.{ClausesSayTheRule}
use Rattle.solv_derive.specs.Laws.{GoodLogsRefute}
use Rattle.solv_derive.specs.Leaves.{leaves, rule_true}
use Rattle.solv_derive.specs.Logs.{is_good_log}
use Rattle.solv_derive.specs.Range.{steps_over}
use Rattle.solv_derive.specs.declared.logs.Log.{Log}
use Rattle.solv_trail.specs.Inner.Asked.{KeepsLaw}
use Rattle.solv_trail.specs.Asked.{enabled_clauses, set_of}
use Rattle.solv_trail.specs.Propagated.{in_use}
use Rattle.solv_trail.specs.declared.questions.Ask.{Ask}
use Rattle.solv_core.specs.Cores.{CoreOf}
use Rattle.solv_core.specs.GoodTrails.{IsGoodTrail, facts_of}
use Rattle.solv_core.specs.Ledgers.{IsGoodLedger}
use Rattle.solv_core.specs.Inner.Probing.{verdict_in, verdict_of}
use Rattle.solv_core.specs.Inner.Running.{IsAnswered, IsFound, IsRefutation, is_log_over}
use Rattle.solv_core.specs.declared.ledger.Ledger.{Ledger}
use Rattle.solv_core.specs.declared.verdicts.Trail.{Trail}
use Rattle.solv_core.specs.declared.verdicts.Probed.{Probed}
use Rattle.solv_core.specs.declared.verdicts.Verdict.{Verdict}
use Rattle.solv_core.specs.declared.verdicts.Verdict.TheVariants as verdict
use Rattle.solv_questions.specs.Questions.{Request, rules_of, asks}
use Rattle.solv_questions.specs.Inner.Law.{QuestionsKeepTheLaw}
use Rattle.solv_pool.proofs.Members.{Has, all_by, all_at, has_flat, of_flat}
use Rattle.solv_questions.proofs.Origins.{is_from, of_enabled}
use Rattle.solv_questions.proofs.Placed.{placed}
use Rattle.solv_plan.specs.Inner.Plans.{plan_asks}
use Rattle.solv_plan.specs.Inner.PlanLaw.{PlansAskTheQuestions}
use Rattle.solv_decide.specs.Deciding.{IsSolution, IsRefuted, rules_on, meets_all}
use Rattle.solv_decide.specs.Inner.Deciding.{Asker, IsAskedFor, IsDecided, IsLawful, clauses_on}
use Rattle.solv_decide.proofs.Enabling.{clauses_are, used_there, lengths_are}

module _ (r : Request) (asker : Asker) (core : CoreOf) (asked : IsAskedFor r asker core) (plans : PlansAskTheQuestions) where
  pub asks_alike : plan_asks asker.plan ≡ asks r
  asks_alike = fun_ext (λ known. fun_ext (λ enabled. ap (λ p. plan_asks p known enabled) asked.plan ∙ plans r known enabled asked.founded))

  pub clauses_alike : (enabled : List Bool) → enabled_clauses enabled core.clauses core.owners ≡ clauses_on r enabled
  clauses_alike enabled =
      ap (λ cs. enabled_clauses enabled cs core.owners) asked.clauses
      ∙ ap (λ os. enabled_clauses enabled (flat_map (rule_clauses r.catalog) (rules_of r)) os) asked.owners
      ∙ clauses_are r.catalog enabled 0 (rules_of r)

  -- who asks is lawful
  pub is_lawful : QuestionsKeepTheLaw → IsLawful asker core.clauses core.owners
  is_lawful law enabled =
      let A : ((ℤ → Bool) → List Bool → Option Ask) → Type 0 = λ f. KeepsLaw (length r.catalog.universe.packages) (clauses_on r enabled) (λ known. f known enabled) in
      let C : List (List ℤ) → Type 0 = λ cs. KeepsLaw (length r.catalog.universe.packages) cs (λ known. plan_asks asker.plan known enabled) in
      let N : ℕ → Type 0 = λ n. KeepsLaw n (enabled_clauses enabled core.clauses core.owners) (λ known. plan_asks asker.plan known enabled) in
      subst N (sym asked.packages) (subst C (sym (clauses_alike enabled)) (subst A (sym asks_alike) (law r enabled asked.formed)))

  pub same_count : asker.packages ≡ core.packages
  same_count = asked.packages ∙ sym asked.count

  -- ledgers
  pub ledger_by : (ledger : Ledger) → IsGoodLedger core.clauses core.owners core.packages (plan_asks asker.plan) ledger → IsGoodLedger core.clauses core.owners core.packages (asks r) ledger
  ledger_by ledger good = let L : ((ℤ → Bool) → List Bool → Option Ask) → Type 0 = λ f. IsGoodLedger core.clauses core.owners core.packages f ledger in subst L asks_alike good

  pub ledger_from : (ledger : Ledger) → IsGoodLedger core.clauses core.owners core.packages (asks r) ledger → IsGoodLedger core.clauses core.owners core.packages (plan_asks asker.plan) ledger
  ledger_from ledger good = let L : ((ℤ → Bool) → List Bool → Option Ask) → Type 0 = λ f. IsGoodLedger core.clauses core.owners core.packages f ledger in subst L (sym asks_alike) good

  module _ (say : ClausesSayTheRule) (enabled : List Bool) where
    well_placed : (x : HardRule) → Has (rules_on r enabled) x → (set : ℕ → Bool) → set 0 ≡ true → list_all (clause_true set) (rule_clauses r.catalog x) ≡ meets_rule r.catalog x set
    well_placed x h set zero = say r.catalog set x zero (placed r asked.formed x (is_from r x (of_enabled enabled 0 (rules_of r) x h)))

    -- clauses and rules of the enabled ones
    rules_met : (set : ℕ → Bool) → set 0 ≡ true → list_all (clause_true set) (clauses_on r enabled) ≡ true → meets_all r enabled set ≡ true
    rules_met set zero all = all_by (λ x. meets_rule r.catalog x set) (rules_on r enabled) (λ x h.
        sym (well_placed x h set zero) ∙ all_by (clause_true set) (rule_clauses r.catalog x) (λ c k. all_at (clause_true set) (clauses_on r enabled) c all (has_flat (rule_clauses r.catalog) (rules_on r enabled) x c h k)))

    clauses_met : (set : ℕ → Bool) → set 0 ≡ true → meets_all r enabled set ≡ true → (c : List ℤ) → Has (clauses_on r enabled) c → clause_true set c ≡ true
    clauses_met set zero all c h =
        let f = of_flat (rule_clauses r.catalog) (rules_on r enabled) c h in
        all_at (clause_true set) (rule_clauses r.catalog f.0) c (well_placed f.0 f.1.0 set zero ∙ all_at (λ x. meets_rule r.catalog x set) (rules_on r enabled) f.0 all f.1.0) f.1.1

    -- the same, said of a set that is given
    pub met_alike : (set : ℕ → Bool) → set 0 ≡ true → all_true set (enabled_clauses enabled core.clauses core.owners) ≡ meets_all r enabled set
    met_alike set zero = ap (list_all (clause_true set)) (clauses_alike enabled) ∙ both (list_all (clause_true set) (clauses_on r enabled)) (meets_all r enabled set) (rules_met set zero) (λ all. all_by (clause_true set) (clauses_on r enabled) (clauses_met set zero all))
      where
        both : (a b : Bool) → (a ≡ true → b ≡ true) → (b ≡ true → a ≡ true) → a ≡ b
        both true b there back = sym (there refl)
        both false true there back = absurd (false≢true (back refl))
        both false false there back = refl

    solution : (trail : Trail) → IsGoodTrail core.packages (enabled_clauses enabled core.clauses core.owners) (λ known. plan_asks asker.plan known enabled) trail.events → IsSolution r enabled trail
    solution trail good =
        let A : ((ℤ → Bool) → List Bool → Option Ask) → Type 0 = λ f. IsGoodTrail core.packages (enabled_clauses enabled core.clauses core.owners) (λ known. f known enabled) trail.events in
        let C : List (List ℤ) → Type 0 = λ cs. IsGoodTrail core.packages cs (λ known. asks r known enabled) trail.events in
        let N : ℕ → Type 0 = λ n. IsGoodTrail n (clauses_on r enabled) (λ known. asks r known enabled) trail.events in
        let own = subst N asked.count (subst C (clauses_alike enabled) (subst A asks_alike good)) in
        record { good = own; meets = rules_met (set_of (is_fact (facts_of trail.events))) refl own.meets }

    refuted : GoodLogsRefute → (log : Log) → length core.owners ≡ length core.clauses → (is_good_log core.clauses log.steps ≡ true) → list_all (λ rule. nat_lt rule (length core.clauses) && in_use core.owners enabled rule) (leaves log.steps) ≡ true → steps_over core.packages log.steps ≡ true → IsRefuted r enabled core log
    refuted refute log each good rests over = record {
      good = good;
      over = over;
      rests = rests;
      none = λ set zero all.
          let leaf : (rule : ℕ) → Has (leaves log.steps) rule → rule_true core.clauses set rule ≡ true = λ rule h. leaf_true set zero all rule (and_parts (nat_lt rule (length core.clauses)) (in_use core.owners enabled rule) (all_at (λ n. nat_lt n (length core.clauses) && in_use core.owners enabled n) (leaves log.steps) rule rests h)).1 in
          false≢true (sym (refute core.packages core.clauses log.steps asked.over over good set) ∙ all_by (rule_true core.clauses set) (leaves log.steps) leaf);
    }
      where
        of_clause : (set : ℕ → Bool) → set 0 ≡ true → meets_all r enabled set ≡ true → (rule : ℕ) → in_use core.owners enabled rule ≡ true → (o : Option (List ℤ)) → slice_get core.clauses rule ≡ o → elim o [ None ↦ true | Some c ↦ clause_true set c ] ≡ true
        of_clause set zero all rule used None e = refl
        of_clause set zero all rule used (Some c) e =
            let C : List (List ℤ) → Type 0 = λ cs. Has cs c in
            clauses_met set zero all c (subst C (clauses_alike enabled) (used_there r.catalog enabled core.clauses core.owners rule c each used e))

        leaf_true : (set : ℕ → Bool) → set 0 ≡ true → meets_all r enabled set ≡ true → (rule : ℕ) → in_use core.owners enabled rule ≡ true → rule_true core.clauses set rule ≡ true
        leaf_true set zero all rule used = of_clause set zero all rule used (slice_get core.clauses rule) refl

    pub decided : GoodLogsRefute → length core.owners ≡ length core.clauses → (v : Verdict) → IsFound core.packages core.clauses core.owners enabled (λ known. plan_asks asker.plan known enabled) v → IsRefutation core.clauses core.owners enabled v → is_log_over core.packages v ≡ true → IsDecided r enabled core v
    decided refute each (verdict.Sat trail) found refutation over = solution trail found
    decided refute each (verdict.Unsat log) found refutation over = refuted refute log each refutation.0 refutation.1 over
    decided refute each verdict.Spent found refutation over = tt

    pub decided_if : GoodLogsRefute → (o : Result Probed AllocError) (ledger : Ledger) → IsAnswered core (λ known. plan_asks asker.plan known enabled) enabled ledger (verdict_in o) → IfOk o (λ v. IsDecided r enabled core (verdict_of v))
    decided_if refute (Ok v) ledger a = decided refute (ap length asked.owners ∙ lengths_are r.catalog 0 (rules_of r) ∙ sym (ap length asked.clauses)) (verdict_of v) a.found a.refutation a.log_over
    decided_if refute (Err e) ledger a = tt
