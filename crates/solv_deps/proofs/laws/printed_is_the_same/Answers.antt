use Rattle.solv_deps.proofs.RoundTrip.{printed_same}
use Rattle.solv_deps.proofs.laws.printed_is_the_same.Goals as goal

pub returns : goal.returns
returns c = printed_same
