use Rattle.std.proofs.Common.{◌∙◌, ◌||◌, eqb, ap, bit_or}
use Rattle.std.specs.Int.{bit_at}
use Rattle.solv_trail.proofs.Bits.{either}
use Rattle.solv_trail.proofs.numbers.joined.Goals as goal

pub returns : goal.returns
returns c = λ i.
    either (bit_or c.args.a c.args.b) (bit_or c.args.c c.args.d) i
    ∙ ap (λ x. x || eqb (bit_at (bit_or c.args.c c.args.d) i) 1) (either c.args.a c.args.b i)
    ∙ ap (λ x. (eqb (bit_at c.args.a i) 1 || eqb (bit_at c.args.b i) 1) || x) (either c.args.c c.args.d i)
