use Rattle.std.proofs.Common.{◌≡◌, ◌+◌, ◌-◌, ◌∙◌, slice_get, length, ap, subst, arith, sym}
use Rattle.solv_writing.specs.Inner.Spans.{AreSpans}
use Rattle.solv_writing.proofs.spans.fill.Goals as goal

pub loop-place-preserved : goal.loop-place-preserved
loop-place-preserved c = record {
  each = c.widen.ensures.each ∙ c.loop-place.invariant.each;
  spans =
      c.widen.ensures.spans c.args.universe.now.packages c.package.result
      (ap (λ k. slice_get c.args.universe.now.packages k) (let e : c.loop-place.place ≡ c.loop-place.place + 1 - 1 = omega arith in e) ∙ c.package.ensures) (sym c.repo.ensures) c.loop-place.invariant.spans;
}

pub returns-clause-spans : goal.returns-clause-spans
returns-clause-spans c =
    let e : c.loop-place.place ≡ length c.args.universe.now.packages = omega arith in
    subst (λ n. AreSpans c.args.universe.now.packages n c.loop-place.spans) e c.loop-place.invariant.spans
