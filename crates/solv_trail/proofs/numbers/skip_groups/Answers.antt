use Rattle.std.proofs.Common.{◌*◌, inl, inr, arith}
use Rattle.std.proofs.lemmas.Bool.{cases_lt}
use Rattle.solv_trail.proofs.numbers.skip_groups.Goals as goal

pub loop-place-preserved : goal.loop-place-preserved
loop-place-preserved c = record {
  forward = omega (arith, c.loop-place.invariant.forward);
  within = λ k low high. elim (cases_lt k (c.loop-place.place * 64)) [
    | inl before ↦ c.loop-place.invariant.within k low before
    | inr after ↦ c.is_group_within.ensures c.if-is_group_within.true k after (omega (arith, high))
  ];
}
