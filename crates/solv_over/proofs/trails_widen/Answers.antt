use Rattle.solv_over.proofs.trails_widen.Goals as goal
use Rattle.solv_over.proofs.Trails.{trails_widen as widen}

pub returns : goal.returns
returns c = widen
