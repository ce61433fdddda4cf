use Rattle.std.proofs.Common.{eqb-true, bit_and, ◌-◌}
use Rattle.solv_trail.proofs.Bits.{within_word}
use Rattle.solv_trail.proofs.numbers.is_within.Goals as goal

pub returns : goal.returns
returns c = λ none. within_word c.args.word c.args.other c.ranges.other.fits (eqb-true (bit_and c.args.word (18446744073709551615 - c.args.other)) 0 none)
