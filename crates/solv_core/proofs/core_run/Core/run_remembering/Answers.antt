use Rattle.std.proofs.Common.{Ok, sym, subst}
use Rattle.solv_core.specs.Inner.Running.{HasRunOnce}
use Rattle.solv_core.specs.declared.verdicts.Verdict.{Verdict}
use Rattle.solv_core.proofs.core_run.Core.run_remembering.Goals as goal

pub returns : goal.returns
returns g c =
    let P : Verdict → Type 0 = λ v. HasRunOnce (g.G.Guide.asks c.args.guide.now) c.args.enabled.now c.args.self.now c.run_probing.new.self c.args.ledger.now c.run_probing.new.ledger (Ok v) in
    record { run = subst P (sym c.into_verdict.ensures) c.in_ok-probed.ensures.run }
