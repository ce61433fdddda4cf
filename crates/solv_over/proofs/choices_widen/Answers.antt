use Rattle.solv_over.proofs.choices_widen.Goals as goal
use Rattle.solv_over.proofs.Choices.{choices_widen as widen}

pub returns : goal.returns
returns c = widen
