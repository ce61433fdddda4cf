use Rattle.solv_run.proofs.Said.{due_answers}
use Rattle.solv_run.proofs.running.answers_concluded.Goals as goal

pub returns : goal.returns
returns c = due_answers c.args.command.now c.args.script.now c.in_ok-due.due c.args.begun.reached c.requires.plain c.requires.fits c.requires.all.are c.in_ok-due.ensures
