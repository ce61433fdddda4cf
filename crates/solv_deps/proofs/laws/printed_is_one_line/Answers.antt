use Rattle.solv_deps.proofs.OneLine.{printed_line}
use Rattle.solv_deps.proofs.Sound.{read_is_written}
use Rattle.solv_deps.proofs.laws.printed_is_one_line.Goals as goal

pub returns : goal.returns
returns c = printed_line read_is_written
