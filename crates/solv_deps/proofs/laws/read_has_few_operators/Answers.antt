use Rattle.solv_deps.proofs.RoundTrip.{few_operators}
use Rattle.solv_deps.proofs.laws.read_has_few_operators.Goals as goal

pub returns : goal.returns
returns c = few_operators
