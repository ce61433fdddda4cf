use Rattle.solv_run.proofs.ProblemProofs.{fits_by}
use Rattle.solv_run.proofs.proving.text_of_proofs.Goals as goal

pub returns-clause-fits : goal.returns-clause-fits
returns-clause-fits c = fits_by c.read_is_written.ensures c.args.proofs.now c.write_proof.result c.write_proof.ensures.readable
