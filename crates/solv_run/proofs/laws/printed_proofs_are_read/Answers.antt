use Rattle.solv_run.proofs.ProblemProofs.{proofs_again}
use Rattle.solv_run.proofs.laws.printed_proofs_are_read.Goals as goal

pub returns : goal.returns
returns c = λ tasks answers good some. proofs_again c.written_is_read.ensures answers good.listed good.fits some
