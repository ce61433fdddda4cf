use Rattle.solv_deps.proofs.HeldEntered.{held_entered}
use Rattle.solv_deps.proofs.laws.held_is_entered.Goals as goal

pub returns : goal.returns
returns c = held_entered
