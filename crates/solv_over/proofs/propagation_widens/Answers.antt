use Rattle.solv_over.proofs.propagation_widens.Goals as goal
use Rattle.solv_over.proofs.Widened.{propagation_widens as widens}

-- src/lib.rt:6:1
pub returns : goal.returns
returns c = widens
