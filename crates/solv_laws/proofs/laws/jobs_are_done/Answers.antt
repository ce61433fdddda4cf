use Rattle.solv_laws.proofs.AskedFor.{jobs_done}
use Rattle.solv_laws.proofs.laws.jobs_are_done.Goals as goal

pub returns : goal.returns
returns c = jobs_done
