use Rattle.solv_deps.proofs.Sound.{read_is_written}
use Rattle.solv_deps.proofs.laws.read_is_written.Goals as goal

pub returns : goal.returns
returns c = read_is_written
