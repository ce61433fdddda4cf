use Rattle.solv_run.proofs.ProblemProofs.{listed}
use Rattle.solv_run.proofs.proving.answers_have_proofs.Goals as goal
use Rattle.solv_script.specs.Rounds.{tasks}

pub returns : goal.returns
returns c = listed c.problems_may_be_written.ensures c.args.budget (tasks c.args.script.now) c.args.reached.now.answers c.args.reached.now.ledgers c.requires.are
