use Rattle.std.proofs.Common.{Ok, sym, subst}
use Rattle.solv_core.specs.Inner.Running.{HasRunOnce}
use Rattle.solv_core.specs.declared.verdicts.Verdict.{Verdict}
use Rattle.solv_plan.specs.Inner.Plans.{plan_asks}
use Rattle.solv_decide.specs.Inner.Deciding.{IsDecided}
use Rattle.solv_decide.proofs.solving.solve.Goals as goal

pub returns-clause-run : goal.returns-clause-run
returns-clause-run c =
    let P : Verdict → Type 0 = λ v. HasRunOnce (plan_asks c.args.phases.now.plan) c.args.enabled.now c.args.core.now c.solve_probing.new.core c.args.ledger.now c.solve_probing.new.ledger (Ok v) in
    subst P (sym c.into_verdict.ensures) c.in_ok-probed.ensures.run

pub returns-clause-decided : goal.returns-clause-decided
returns-clause-decided c = λ r asked.
    let P : Verdict → Type 0 = λ v. IsDecided r c.args.enabled.now c.args.core.now.made v in
    subst P (sym c.into_verdict.ensures) (c.in_ok-probed.ensures.decided r asked)
