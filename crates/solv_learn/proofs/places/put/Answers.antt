use Rattle.std.proofs.Common.{refl, get_or, ◌/◌}
use Rattle.solv_trail.proofs.Bits.{inserted}
use Rattle.solv_learn.proofs.places.put.Goals as goal

pub returns : goal.returns
returns c = λ k. inserted c.args.words.now c.args.number c.requires _ (get_or c.args.words.now (c.args.number / 64) 0) refl refl k
