use Rattle.solv_learn.proofs.Lasts.{lower_bit}
use Rattle.solv_learn.proofs.places.lower.Goals as goal

pub returns : goal.returns
returns c = λ i. lower_bit c.args.word c.args.end i c.requires
