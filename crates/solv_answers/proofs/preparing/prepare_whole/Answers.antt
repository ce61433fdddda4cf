use Rattle.solv_answers.proofs.Shared.{prepared_if}
use Rattle.solv_answers.proofs.preparing.prepare_whole.Goals as goal

pub returns-clause-prepared : goal.returns-clause-prepared
returns-clause-prepared c = prepared_if c.args.task.now c.args.marks c.prepare_anew.result c.requires.marks c.requires.each c.prepare_anew.ensures.booked
