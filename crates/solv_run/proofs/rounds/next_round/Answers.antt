use Rattle.solv_said.proofs.Forming.{asks_formed}
use Rattle.solv_run.proofs.rounds.next_round.Goals as goal

pub prepare_next-requires-clause-formed : goal.prepare_next-requires-clause-formed
prepare_next-requires-clause-formed c = asks_formed c.args.script.now.task c.requires.forms
