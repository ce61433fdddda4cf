use Rattle.solv_base.proofs.Places.{position_first}
use Rattle.solv_base.proofs.keys.place_in.Goals as goal

pub returns-clause-place : goal.returns-clause-place
returns-clause-place c = position_first _ c.args.texts.now.keys c.get_index_of.result c.get_index_of.ensures.index
