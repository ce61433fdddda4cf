use Rattle.solv_laws.proofs.AskedFor.{kept_stays}
use Rattle.solv_laws.proofs.laws.nothing_goes_unasked.Goals as goal

pub returns : goal.returns
returns c = kept_stays
