use Rattle.std.proofs.Common.{ℕ, ◌+◌, List, drop, sym, ap, ◌∙◌}
use Rattle.std.specs.List.{list_all}
use Rattle.solv_plan.specs.declared.plans.Demand.{Demand}
use Rattle.solv_plan.specs.Inner.Entries.{is_rested}
use Rattle.solv_plan.specs.Inner.Settling.{met_by}
use Rattle.solv_plan.proofs.Recalled.{met_more, all_from}
use Rattle.solv_plan.proofs.remembering.rest_on_keep.Goals as goal

pub loop-demand-preserved : goal.loop-demand-preserved
loop-demand-preserved c =
    let items : List Demand = c.held-demand-items.result.now in
    let at : ℕ = c.loop-demand.demand-index in
    record {
      right = λ by h. c.rest_on_one.ensures.right by (c.loop-demand.invariant.right by h);
      fits = c.rest_on_one.ensures.fits;
      left = λ rested more rest. c.loop-demand.invariant.left rested (λ p h. more p (c.rest_on_one.ensures.still p h))
          (ap (λ l. list_all (λ d. met_by rested d.candidates) (drop at l)) (sym c.held-demand-items.ensures)
          ∙ all_from (λ d. met_by rested d.candidates) items at c.demand-item.result c.loop-demand-test.true c.demand-item.is
          (met_more (is_rested c.rest_on_one.new.self) rested more c.demand-item.result.candidates (ap (met_by (is_rested c.rest_on_one.new.self)) (sym c.held.ensures) ∙ c.rest_on_one.ensures.met c.if-not-rest_on_one.false))
          (ap (λ l. list_all (λ d. met_by rested d.candidates) (drop (at + 1) l)) c.held-demand-items.ensures ∙ rest));
    }

pub returns-then-not-rest_on_one-clause-fits : goal.returns-then-not-rest_on_one-clause-fits
returns-then-not-rest_on_one-clause-fits c = λ p h. c.rest_on_one.ensures.fits p (c.give_up.ensures.named p h)
