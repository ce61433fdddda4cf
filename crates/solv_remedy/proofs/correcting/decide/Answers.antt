use Rattle.std.proofs.Common.{◌≡◌, ◌<◌, ◌∷◌, ◌∙◌, ◌||◌, [], ℕ, List, true, false, sym, ap, subst, arith, length, refl, rules, eq-eqb}
use Rattle.std.proofs.lemmas.Bool.{or_left, eqb-true}
use Rattle.std.specs.Prelude.{◌==◌}
use Rattle.solv_list.proofs.Booleans.{or_false}
use Rattle.solv_pool.specs.Prelude.{is_among}
use Rattle.solv_trail.specs.Asked.{is_enabled}
use Rattle.solv_core.specs.declared.verdicts.Verdict.{Verdict}
use Rattle.solv_decide.specs.Inner.Deciding.{IsDecided}
use Rattle.solv_remedy.proofs.Growing.{and_fixed, and_solvable, dropped_more, held_more, one_refuted, open_fewer, solvable_on}
use Rattle.solv_remedy.proofs.Probed.{refuted_on}
use Rattle.solv_remedy.proofs.Ran.{ran_not}
use Rattle.solv_remedy.proofs.correcting.decide.Goals as goal

-- no rule but this one
only : (rule k : ℕ) → is_among (rule ∷ []) k ≡ true → rule ≡ k
only rule k h = eqb-true rule k (sym (or_false (rule == k)) ∙ h)

pub run_with-requires-clause-size : goal.run_with-requires-clause-size
run_with-requires-clause-size c = ap length c.deref.ensures.value ∙ c.in_ok-enabled.ensures.size ∙ c.requires.parted.parted.held_size

pub run_with-requires-clause-fixed : goal.run_with-requires-clause-fixed
run_with-requires-clause-fixed c =
    let p = c.requires.parted in
    and_fixed p.request c.args.core.now.made c.args.setting.now.fixed.now p.firm p.rules (c.args.rule ∷ []) c.args.parted.now p.parted c.deref.result.now (λ k less. ap (λ l. is_enabled l k) c.deref.ensures.value ∙ c.in_ok-enabled.ensures.on k less)

pub returns-in_err-enabled-clause-has_run : goal.returns-in_err-enabled-clause-has_run
returns-in_err-enabled-clause-has_run c = ran_not c.requires.may_run

pub returns-in-Sat-clause-parted : goal.returns-in-Sat-clause-parted
returns-in-Sat-clause-parted c = λ r firm rules_ up p.
    let core = c.args.core.now.made in
    let old = c.args.parted.now in
    let V : Verdict → Type 0 = λ v. IsDecided r c.deref.result.now core v in
    let found = subst V c.in-Sat.is (c.in_ok-run_with.ensures.decided r up) in
    let opened = λ (k : ℕ) (h : is_among (c.args.rule ∷ []) k ≡ true). subst (λ n. is_enabled old.open.items n ≡ true) (only c.args.rule k h) c.requires.opened in
    held_more r core c.args.setting.now.fixed.now firm rules_ (c.args.rule ∷ []) old c.hold.new.self p opened c.hold.ensures
    (and_solvable (c.args.rule ∷ []) old c.hold.new.self c.hold.ensures r c.deref.result.now (λ k less. ap (λ l. is_enabled l k) c.deref.ensures.value ∙ c.in_ok-enabled.ensures.on k less) (solvable_on r c.deref.result.now c.in-Sat.field-0 found))

pub returns-in-Sat-clause-fewer : goal.returns-in-Sat-clause-fewer
returns-in-Sat-clause-fewer c =
    let p = c.requires.parted in
    let old = c.args.parted.now in
    open_fewer old c.hold.new.self c.hold.ensures.same (c.args.rule ∷ []) c.hold.ensures.opened c.args.rule (ap (λ l. is_among l c.args.rule) p.parted.same ∙ p.parted.open_of c.args.rule c.requires.opened) c.requires.opened (or_left (c.args.rule == c.args.rule) false (eq-eqb c.args.rule c.args.rule refl))

pub returns-in-Sat-clause-held : goal.returns-in-Sat-clause-held
returns-in-Sat-clause-held c = λ same. c.hold.ensures

pub returns-in-Unsat-clause-parted : goal.returns-in-Unsat-clause-parted
returns-in-Unsat-clause-parted c = λ r firm rules_ up p.
    let s = c.args.setting.now in
    let core = c.args.core.now.made in
    let old = c.args.parted.now in
    let V : Verdict → Type 0 = λ v. IsDecided r c.deref.result.now core v in
    let refuted = subst V c.in-Unsat.is (c.in_ok-run_with.ensures.decided r up) in
    dropped_more r core s.fixed.now firm rules_ (record { rule = c.args.rule; log = c.in-Unsat.log }) old c.leave.new.self p c.requires.opened c.in_ok-leave-in-Unsat.ensures
    (one_refuted r core c.args.rule old c.deref.result.now c.in-Unsat.log (ap length c.deref.ensures.value ∙ c.in_ok-enabled.ensures.size) (λ k less. ap (λ l. is_enabled l k) c.deref.ensures.value ∙ c.in_ok-enabled.ensures.on k less)
    (refuted_on r s.phases.now core s.book.now s.fixed.now up c.good_logs_refute_their_rules.ensures c.deref.result.now c.in-Unsat.log refuted))

pub returns-in-Unsat-clause-fewer : goal.returns-in-Unsat-clause-fewer
returns-in-Unsat-clause-fewer c =
    let p = c.requires.parted in
    let old = c.args.parted.now in
    open_fewer old c.leave.new.self c.in_ok-leave-in-Unsat.ensures.same (c.args.rule ∷ []) c.in_ok-leave-in-Unsat.ensures.opened c.args.rule (ap (λ l. is_among l c.args.rule) p.parted.same ∙ p.parted.open_of c.args.rule c.requires.opened) c.requires.opened (or_left (c.args.rule == c.args.rule) false (eq-eqb c.args.rule c.args.rule refl))
