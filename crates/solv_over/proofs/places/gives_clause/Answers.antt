use Rattle.solv_over.proofs.places.gives_clause.Goals as goal

pub are_others-requires : goal.are_others-requires
are_others-requires c = c.requires.ascending c.args.need.dep c.of.result.now c.of.ensures.held
