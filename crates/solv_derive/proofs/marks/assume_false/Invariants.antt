use Rattle.std.proofs.Common.{take, map}
use Rattle.std.specs.Prelude.{neg_ℤ}
use Rattle.solv_derive.specs.Inner.Marks.{Shows}
use Rattle.solv_derive.proofs.marks.assume_false.Given as goal

abbrev pub invariant-loop-lit : goal.invariant-loop-lit
invariant-loop-lit l = Shows l.count l.marks l.now (map neg_ℤ (take l.lit-index l.clause))
