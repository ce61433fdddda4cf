use Rattle.std.proofs.Common.{◌≡◌, ◌∙◌, ◌≤◌, ◌+◌, ◌-◌, ◌<◌, ◌||◌, ℕ, Bool, List, not, true, false, sym, ap, subst, length, arith}
use Rattle.std.specs.Prelude.{filter}
use Rattle.solv_pool.specs.Prelude.{is_among}
use Rattle.solv_trail.specs.Asked.{is_enabled}
use Rattle.solv_core.specs.Cores.{CoreOf}
use Rattle.solv_core.specs.Inner.Running.{is_spent_verdict}
use Rattle.solv_core.specs.declared.verdicts.Verdict.{Verdict}
use Rattle.solv_questions.specs.Questions.{Request}
use Rattle.solv_decide.specs.Inner.Deciding.{IsDecided}
use Rattle.solv_remedy.specs.Inner.Correcting.{is_left, open_count, IsPartedOf, IsRefutedOn}
use Rattle.solv_remedy.specs.Inner.Runs.{IsOf, MayRun, HasRun}
use Rattle.solv_remedy.proofs.Growing.{kept_then, left_fixed, left_found, left_on, parted_same, parted_then, refuted_wider}
use Rattle.solv_remedy.proofs.Probed.{refuted_on}
use Rattle.solv_remedy.proofs.Ran.{may_still, ran_not, ran_then, ran_within}
use Rattle.solv_remedy.proofs.Tried.{size_is}
use Rattle.solv_remedy.proofs.correcting.correct.Goals as goal
use Rattle.solv_remedy.proofs.correcting.correct.Goals.{In_ok-left, After-run_with, In-Unsat}

pub loop-left-init : goal.loop-left-init
loop-left-init c = record {
  may_run = c.requires.may_run;
  has_run = ran_not c.requires.may_run;
  few = omega arith;
  kept = λ r firm rules_ up p. p;
}

-- they are parted at this turn
here : (c : In_ok-left) → IsPartedOf c.args.setting.now c.args.core.now.made c.loop-left.parted
here c = parted_then c.args.setting.now c.args.core.now.made c.args.parted.now c.loop-left.parted c.requires.parted c.loop-left.invariant.kept

pub run_with-requires-clause-size : goal.run_with-requires-clause-size
run_with-requires-clause-size c =
    let at = goal.at.run_with-requires-clause-size c in
    ap length c.deref.ensures.value ∙ c.in_ok-left.ensures.size ∙ (here at.In_ok-left).parted.held_size

pub run_with-requires-clause-fixed : goal.run_with-requires-clause-fixed
run_with-requires-clause-fixed c =
    let at = goal.at.run_with-requires-clause-fixed c in
    let p = here at.In_ok-left in
    left_fixed p.request c.args.core.now.made c.args.setting.now.fixed.now p.firm p.rules c.loop-left.parted p.parted c.deref.result.now (ap length c.deref.ensures.value ∙ c.in_ok-left.ensures.size)
    (λ k less. ap (λ l. is_enabled l k) c.deref.ensures.value ∙ c.in_ok-left.ensures.on k less)

-- so many runs, and this one, are within the bound
one_more : (c : After-run_with) → HasRun c.args.setting.now ((((open_count c.args.parted.now - open_count c.loop-left.parted) + (open_count c.args.parted.now - open_count c.loop-left.parted)) + (open_count c.args.parted.now - open_count c.loop-left.parted)) + 1) c.args.core.now c.run_with.new.core c.args.ledger.now c.run_with.new.ledger
one_more c = ran_then (omega arith) c.loop-left.invariant.has_run c.run_with.ensures.has_run

pub returns-in_err-trail-clause-has_run : goal.returns-in_err-trail-clause-has_run
returns-in_err-trail-clause-has_run c = let few = c.loop-left.invariant.few in ran_within (omega (arith, few)) (one_more ((goal.at.returns-in_err-trail-clause-has_run c).After-run_with))

pub returns-in-Sat-clause-has_run : goal.returns-in-Sat-clause-has_run
returns-in-Sat-clause-has_run c = let few = c.loop-left.invariant.few in ran_within (omega (arith, few)) (one_more ((goal.at.returns-in-Sat-clause-has_run c).After-run_with))

pub returns-in-Spent-clause-has_run : goal.returns-in-Spent-clause-has_run
returns-in-Spent-clause-has_run c = let few = c.loop-left.invariant.few in ran_within (omega (arith, few)) (one_more ((goal.at.returns-in-Spent-clause-has_run c).After-run_with))

pub returns-in_err-drop_next-in-Unsat-clause-has_run : goal.returns-in_err-drop_next-in-Unsat-clause-has_run
returns-in_err-drop_next-in-Unsat-clause-has_run c = let few = c.loop-left.invariant.few in ran_then (omega (arith, few)) (one_more ((goal.at.returns-in_err-drop_next-in-Unsat-clause-has_run c).After-run_with)) c.drop_next.ensures.has_run

pub returns-then-not-branch-clause-has_run : goal.returns-then-not-branch-clause-has_run
returns-then-not-branch-clause-has_run c = let few = c.loop-left.invariant.few in ran_then (omega (arith, few)) (one_more ((goal.at.returns-then-not-branch-clause-has_run c).After-run_with)) c.drop_next.ensures.has_run

pub returns-in-Sat-clause-corrected : goal.returns-in-Sat-clause-corrected
returns-in-Sat-clause-corrected c = λ r firm rules_ up p.
    let s = c.args.setting.now in
    let core = c.args.core.now.made in
    let inv = c.loop-left.invariant in
    let parted = inv.kept r firm rules_ up p in
    let D : CoreOf → Type 0 = λ v. IsOf r s v → IsDecided r c.deref.result.now v c.in_ok-trail.field-0 in
    let V : Verdict → Type 0 = λ v. IsDecided r c.deref.result.now core v in
    let found = subst V c.in-Sat.is (subst D inv.has_run.core (c.in_ok-trail.ensures.decided r) up) in
    record {
      parted = parted;
      found = left_found r core s.fixed.now firm rules_ c.loop-left.parted parted c.deref.result.now (ap length c.deref.ensures.value ∙ c.in_ok-left.ensures.size)
          (λ k less. ap (λ l. is_enabled l k) c.deref.ensures.value ∙ c.in_ok-left.ensures.on k less) (size_is r s.phases.now core s.book.now s.fixed.now up) c.in-Sat.trail found;
    }

-- the core is as it was
same_core : (c : After-run_with) → c.run_with.new.core.made ≡ c.args.core.now.made
same_core c = c.run_with.ensures.has_run.core ∙ c.loop-left.invariant.has_run.core

pub drop_next-requires-clause-parted : goal.drop_next-requires-clause-parted
drop_next-requires-clause-parted c =
    let at = goal.at.drop_next-requires-clause-parted c in
    parted_same c.args.setting.now c.args.core.now.made c.run_with.new.core.made c.loop-left.parted (same_core at.After-run_with) (here at.In_ok-left)

pub drop_next-requires-clause-refuted : goal.drop_next-requires-clause-refuted
drop_next-requires-clause-refuted c = λ r up.
    let at = goal.at.drop_next-requires-clause-refuted c in
    let s = c.args.setting.now in
    let core = c.args.core.now.made in
    let inv = c.loop-left.invariant in
    let same = same_core at.After-run_with in
    let old = c.loop-left.parted in
    let log = c.in-Unsat.log in
    let p = here at.In_ok-left in
    let U : CoreOf → Type 0 = λ v. IsOf r s v in
    let begun = subst U same up in
    let D : CoreOf → Type 0 = λ v. IsOf r s v → IsDecided r c.deref.result.now v c.in_ok-trail.field-0 in
    let V : Verdict → Type 0 = λ v. IsDecided r c.deref.result.now core v in
    let R : CoreOf → Type 0 = λ v. IsRefutedOn r v (is_left old) log in
    let refuted = subst V c.in-Unsat.is (subst D inv.has_run.core (c.in_ok-trail.ensures.decided r) begun) in
    subst R (sym same) (refuted_wider r core (is_enabled c.deref.result.now) (is_left old) log
    (left_on p.request core s.fixed.now p.firm p.rules old p.parted c.deref.result.now (ap length c.deref.ensures.value ∙ c.in_ok-left.ensures.size) (λ k less. ap (λ l. is_enabled l k) c.deref.ensures.value ∙ c.in_ok-left.ensures.on k less))
    (refuted_on r s.phases.now core s.book.now s.fixed.now begun c.good_logs_refute_their_rules.ensures c.deref.result.now log refuted))

-- where the verdict is a refutation, the ledger is not spent
may_go_on : (c : In-Unsat) → MayRun c.args.setting.now c.run_with.new.core c.run_with.new.ledger
may_go_on c = may_still c.loop-left.invariant.may_run c.run_with.ensures.has_run (sym (ap is_spent_verdict c.in-Unsat.is) ∙ c.in_ok-trail.ensures.spent)

pub loop-left-preserved : goal.loop-left-preserved
loop-left-preserved c =
    let at = goal.at.loop-left-preserved c in
    let s = c.args.setting.now in
    let core = c.args.core.now.made in
    let inv = c.loop-left.invariant in
    let few = inv.few in
    let done = c.in_ok-drop_next-in-Unsat.ensures in
    let yes = c.if-not-branch.false in
    let fewer = done.fewer yes in
    record {
      may_run = may_still (may_go_on at.In-Unsat) c.drop_next.ensures.has_run (sym (ap not yes) ∙ done.spent);
      has_run = ran_then (omega (arith, few, fewer)) (one_more at.After-run_with) (done.runs yes);
      few = omega (arith, few, fewer);
      kept = kept_then s core c.run_with.new.core.made c.args.parted.now c.loop-left.parted c.drop_next.new.parted (same_core at.After-run_with) inv.kept (done.parted yes);
    }
