use Rattle.solv_trans.proofs.Places.{never_missed}
use Rattle.solv_trans.proofs.parting.place_of.Goals as goal

pub returns-in-Err-clause-there : goal.returns-in-Err-clause-there
returns-in-Err-clause-there c = absurd (never_missed c.args.parts.now c.args.pack c.in-Err.field-0 c.requires.rising c.requires.held c.in-Err.ensures.position)
