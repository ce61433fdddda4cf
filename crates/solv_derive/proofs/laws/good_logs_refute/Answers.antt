use Rattle.solv_derive.proofs.Sound.{good_logs_refute}
use Rattle.solv_derive.proofs.laws.good_logs_refute.Goals as goal

pub returns : goal.returns
returns c = good_logs_refute
