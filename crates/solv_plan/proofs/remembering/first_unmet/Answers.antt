use Rattle.std.proofs.Common.{ℕ, List, arith, sym, ap, ◌∙◌}
use Rattle.std.specs.Prelude.{ℤ}
use Rattle.std.specs.List.{list_all}
use Rattle.solv_plan.specs.declared.plans.Relations.{Relations}
use Rattle.solv_plan.specs.declared.plans.Want.{Want}
use Rattle.solv_plan.specs.Inner.Settling.{want_settled, known_in}
use Rattle.solv_plan.proofs.Below.{below_one, below_next, below_all}
use Rattle.solv_plan.proofs.remembering.first_unmet.Goals as goal

pub returns-then-not-settle_package-clause-below : goal.returns-then-not-settle_package-clause-below
returns-then-not-settle_package-clause-below c =
    below_next c.args.relations.now c.args.wants.now c.args.known.now.lits c.packs_in.result.now c.packs_in.ensures c.loop-number.settled c.loop-number.invariant.right c.loop-number.invariant.fits
    c.loop-number.from c.in-Some.number c.loop-number.invariant.below c.in-Some.ensures.next

pub loop-number-preserved : goal.loop-number-preserved
loop-number-preserved c =
    let relations : Relations = c.args.relations.now in
    let ws : List Want = c.args.wants.now in
    let lits : List ℤ = c.args.known.now.lits in
    let n : ℕ = c.in-Some.number in
    record {
      right = c.settle_package.ensures.right ws c.of.ensures c.loop-number.invariant.right;
      fits = c.settle_package.ensures.fits;
      some = omega arith;
      below =
          below_one relations ws lits n
          (below_next relations ws lits c.packs_in.result.now c.packs_in.ensures c.loop-number.settled c.loop-number.invariant.right c.loop-number.invariant.fits c.loop-number.from n c.loop-number.invariant.below c.in-Some.ensures.next)
          (ap (list_all (want_settled relations (known_in lits))) (sym c.of.ensures) ∙ c.settle_package.ensures.met c.if-not-settle_package.false);
    }

pub returns-clause-below : goal.returns-clause-below
returns-clause-below c =
    below_all c.args.relations.now c.args.wants.now c.args.known.now.lits c.packs_in.result.now c.packs_in.ensures c.loop-number.settled c.loop-number.invariant.right c.loop-number.invariant.fits
    c.loop-number.from 4294967295 c.loop-number.invariant.below c.in_default.ensures.next
