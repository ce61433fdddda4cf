use Rattle.solv_over.specs.Inner.Places.{LogsWiden}
use Rattle.solv_over.proofs.logs_widen.Goals as goal
use Rattle.solv_over.proofs.Logged.{logs_widen as widen}

pub returns : goal.returns
returns c = widen
