use Rattle.solv_derive.proofs.Named.{leaves_are_named}
use Rattle.solv_derive.proofs.laws.leaves_are_named.Goals as goal

pub returns : goal.returns
returns c = leaves_are_named
