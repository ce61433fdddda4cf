use Rattle.solv_base.proofs.Reading.{reading_ends}
use Rattle.solv_base.proofs.relation_laws.reading_ends.Goals as goal

pub returns : goal.returns
returns c = reading_ends
