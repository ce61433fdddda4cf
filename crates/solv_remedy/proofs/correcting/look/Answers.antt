use Rattle.std.proofs.Common.{Bool, List, ◌≡◌, ◌∙◌, ◌≤◌, ℕ, true, sym, ap, subst, length, rules, arith}
use Rattle.solv_trail.specs.Asked.{is_enabled}
use Rattle.solv_core.specs.Inner.Probing.{AreRefutedBeside, verdict_of}
use Rattle.solv_core.specs.declared.verdicts.Probed.{Probed}
use Rattle.solv_core.specs.Cores.{CoreOf}
use Rattle.solv_core.specs.declared.refuting.RefutedRule.{RefutedRule}
use Rattle.solv_questions.specs.Questions.{Request}
use Rattle.solv_decide.specs.Deciding.{IsSolution}
use Rattle.solv_decide.specs.Inner.Deciding.{IsDecided}
use Rattle.solv_remedy.specs.Inner.Correcting.{AreRefutedBy, IsParted}
use Rattle.solv_remedy.specs.Inner.Runs.{IsOf}
use Rattle.solv_remedy.proofs.Growing.{looked}
use Rattle.solv_remedy.proofs.Ledgers.{not_spent}
use Rattle.solv_remedy.proofs.Numbered.{met_enabled}
use Rattle.solv_remedy.proofs.Probed.{all_by_look}
use Rattle.solv_remedy.proofs.Ran.{of_same, ran_not}
use Rattle.solv_remedy.proofs.correcting.look.Goals as goal

pub returns-then-parted-gt0-clause-has_run : goal.returns-then-parted-gt0-clause-has_run
returns-then-parted-gt0-clause-has_run c = ran_not c.requires.may_run

pub returns-then-parted-gt0-clause-spent : goal.returns-then-parted-gt0-clause-spent
returns-then-parted-gt0-clause-spent c = not_spent c.args.ledger.now c.requires.may_run.unspent

pub returns-then-parted-gt0-clause-parted : goal.returns-then-parted-gt0-clause-parted
returns-then-parted-gt0-clause-parted c = λ yes r firm rules_ up p. looked r c.args.core.now.made c.args.setting.now.fixed.now firm rules_ c.args.parted.now _ p

pub run_and_probe-requires-clause-size : goal.run_and_probe-requires-clause-size
run_and_probe-requires-clause-size c = ap length c.deref.ensures.value ∙ c.requires.parted.parted.held_size

pub run_and_probe-requires-clause-fixed : goal.run_and_probe-requires-clause-fixed
run_and_probe-requires-clause-fixed c = λ k h. ap (λ l. is_enabled l k) c.deref.ensures.value ∙ c.requires.parted.parted.fixed_held k h

pub unreachable-requires : goal.unreachable-requires
unreachable-requires c =
    let p = c.requires.parted in
    let r = p.request in
    let V : Probed → Type 0 = λ v. IsDecided r c.deref.result.now c.args.core.now.made (verdict_of v) in
    let refuted = subst V c.in-Unsat.is (c.in_ok-trail.ensures.decided r p.up) in
    let set = p.parted.solvable in
    refuted.none set.set set.system (met_enabled r set.set c.deref.result.now (λ k x at h. set.meets k x at (ap (λ l. is_enabled l k) (sym c.deref.ensures.value) ∙ h)))

pub returns-in_ok-take_in-in-Sat-clause-parted : goal.returns-in_ok-take_in-in-Sat-clause-parted
returns-in_ok-take_in-in-Sat-clause-parted c = λ yes r firm rules_ up p.
    let s = c.args.setting.now in
    let core = c.args.core.now.made in
    let old = c.args.parted.now in
    let trail = c.in-Sat.trail in
    let refuted = c.in-Sat.refuted in
    let asked = c.args.clauses.now in
    let V : Probed → Type 0 = λ v. IsDecided r c.deref.result.now core (verdict_of v) in
    let S : List Bool → Type 0 = λ h. IsSolution r h trail in
    let R : Probed → Type 0 = λ v. AreRefutedBeside core.clauses core.owners core.packages c.deref.result.now asked v in
    let L : List Bool → Type 0 = λ h. AreRefutedBy r core (is_enabled h) refuted in
    let found = subst S c.deref.ensures.value (subst V c.in-Sat.is (c.in_ok-trail.ensures.decided r up)) in
    let named = subst L c.deref.ensures.value (all_by_look r s.phases.now core s.book.now s.fixed.now up c.good_logs_refute_their_rules.ensures c.deref.result.now asked refuted (subst R c.in-Sat.is c.in_ok-trail.ensures.refuted)) in
    let P : CoreOf → Type 0 = λ v. (r : Request) (firm : ℕ → Bool) (rules_ : List ℕ) → IsOf r s v → IsParted r v s.fixed.now firm rules_ old → IsSolution r old.held.items trail → AreRefutedBy r v (is_enabled old.held.items) refuted
    → IsParted r v s.fixed.now firm rules_ c.take_in.new.self in
    subst P c.run_and_probe.ensures.has_run.core c.in_ok-take_in-in-Sat.ensures.parted r firm rules_ up p found named
