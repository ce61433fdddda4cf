use Rattle.solv_run.proofs.ProblemProofs.{good_proofs}
use Rattle.solv_run.proofs.laws.printed_proofs_are_good.Goals as goal

pub returns : goal.returns
returns c = good_proofs c.problems_may_be_written.ensures c.problems_are_proved.ensures
