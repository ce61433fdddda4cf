use Rattle.std.proofs.Common.{sym, ap, ◌∙◌, arith}
use Rattle.std.specs.Prelude.{pos}
use Rattle.std.proofs.lemmas.List.{take_all}
use Rattle.solv_pool.specs.Prelude.{is_fact}
use Rattle.solv_plan.proofs.Below.{one_seen}
use Rattle.solv_plan.proofs.floors.Floor.lowered.Goals as goal

pub loop-place-preserved : goal.loop-place-preserved
loop-place-preserved c =
    let lits = c.args.known.now.lits in
    record {
      low = omega (arith, c.min-low.ensures, c.loop-place.invariant.low);
      seen = λ k low h.
          c.loop-place.invariant.seen k (omega (arith, c.min-low.ensures))
          (one_seen lits c.loop-place.place c.lit_at.result c.number_of.result k (let long = c.len-place-end.ensures.many in omega (arith, c.loop-place-test.true)) (sym c.lit_at.ensures.lit) c.number_of.ensures (omega (arith, c.min-low.ensures)) h);
    }

pub returns-clause-seen : goal.returns-clause-seen
returns-clause-seen c = λ k low h.
    let lits = c.args.known.now.lits in
    c.loop-place.invariant.seen k low (ap (λ v. is_fact v (pos k)) (take_all c.loop-place.place lits (let long = c.len-place-end.ensures.many in omega (arith, c.loop-place-test.false))) ∙ h)
