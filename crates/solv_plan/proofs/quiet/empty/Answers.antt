use Rattle.std.proofs.Common.{arith}
use Rattle.solv_plan.proofs.Emptying.{one_out, all_out}
use Rattle.solv_plan.proofs.quiet.empty.Goals as goal

pub loop-place-init : goal.loop-place-init
loop-place-init c = record { out = λ k low. absurd (omega (arith, low)) }

pub loop-place-preserved : goal.loop-place-preserved
loop-place-preserved c = record {
  out = one_out c.loop-place.places c.remove.new.self c.loop-place.from c.in-Some.place c.loop-place.invariant.out c.in-Some.ensures.first.2 c.remove.ensures.taken;
}

pub returns : goal.returns
returns c = all_out c.loop-place.places c.loop-place.from c.loop-place.invariant.out c.in_default.ensures.first
