use Rattle.std.proofs.Common.{◌∙◌, refl}
use Rattle.solv_remedy.proofs.running.run_alone.Goals as goal

pub run_and_probe-requires : goal.run_and_probe-requires
run_and_probe-requires c = record { may_run = c.requires.may_run; size = refl; fixed = λ k on. on }

pub returns-clause-spent : goal.returns-clause-spent
returns-clause-spent c = c.named_by.ensures.spent ∙ c.in_ok-probed.ensures.spent

pub returns-clause-refuted : goal.returns-clause-refuted
returns-clause-refuted c =
    let core = c.args.core.now.made in
    c.named_by.ensures.refuted core.clauses core.owners core.packages c.args.setting.now.fixed.now c.args.clauses.now c.in_ok-probed.ensures.refuted
