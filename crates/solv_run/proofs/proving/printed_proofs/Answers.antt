use Rattle.std.proofs.Common.{ap, ◌∙◌}
use Rattle.solv_run.specs.Proofs.{proofs_in}
use Rattle.solv_run.proofs.ProblemProofs.{proofs_printed}
use Rattle.solv_run.proofs.proving.printed_proofs.Goals as goal

pub returns-clause-text : goal.returns-clause-text
returns-clause-text c = proofs_printed c.args.reached.now.answers c.deref.result.now c.text_of_proofs.result (c.deref.ensures.value ∙ c.in_ok-proofs.ensures ∙ ap proofs_in c.held.ensures) c.text_of_proofs.ensures.text
