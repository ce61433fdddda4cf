use Rattle.solv_deps.proofs.Complete.{written_is_read}
use Rattle.solv_deps.proofs.laws.written_is_read.Goals as goal

pub returns : goal.returns
returns c = written_is_read
