use Rattle.solv_over.specs.Inner.Places.{LedgersWiden}
use Rattle.solv_over.proofs.ledgers_widen.Goals as goal
use Rattle.solv_over.proofs.Ledgers.{ledgers_widen as widen}

pub returns : goal.returns
returns c = widen
