use Rattle.std.proofs.Common.{◌*◌, inl, inr, arith}
use Rattle.std.proofs.lemmas.Bool.{cases_lt}
use Rattle.solv_trail.proofs.Bits.{none_beside}
use Rattle.solv_trail.proofs.numbers.skip_from.Goals as goal

pub loop-place-preserved : goal.loop-place-preserved
loop-place-preserved c = record {
  forward = omega (arith, c.loop-place.invariant.forward);
  within = λ k low high. elim (cases_lt k (c.loop-place.place * 64)) [
    | inl before ↦ c.loop-place.invariant.within k low before
    | inr after ↦ none_beside c.args.words.now c.args.other.now c.loop-place.place (c.is_within.ensures c.if-is_within.true) k after (omega arith)
  ];
}
