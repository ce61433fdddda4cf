use Rattle.std.proofs.Common.{◌∙◌, ◌||◌, ◌-◌, eqb, ap, bit_and}
use Rattle.std.specs.Int.{bit_at}
use Rattle.solv_trail.proofs.Bits.{either, without}
use Rattle.solv_trail.proofs.numbers.lacked.Goals as goal

pub returns : goal.returns
returns c = λ i small.
    either c.args.before (bit_and c.args.word (18446744073709551615 - c.args.other)) i
    ∙ ap (λ x. eqb (bit_at c.args.before i) 1 || x) (without c.args.word c.args.other i c.ranges.other.fits small)
