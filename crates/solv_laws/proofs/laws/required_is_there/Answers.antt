use Rattle.solv_laws.proofs.ComingFirst.{required_there}
use Rattle.solv_laws.proofs.laws.required_is_there.Goals as goal

pub returns : goal.returns
returns c = required_there
