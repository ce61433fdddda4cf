use Rattle.std.proofs.Common.{◌≡◌, ℕ, ◌+◌, Bool, true, List, Some, refl, sym, ap, ◌∙◌, subst, arith}
use Rattle.std.specs.Prelude.{ℤ}
use Rattle.solv_pool.specs.Prelude.{is_fact}
use Rattle.solv_questions.specs.Questions.{first_ask}
use Rattle.solv_plan.specs.declared.settled.Entry.{Entry}
use Rattle.solv_plan.specs.declared.plans.Demand.{Demand}
use Rattle.solv_plan.specs.Inner.Plans.{demand_queries}
use Rattle.solv_plan.specs.Inner.Entries.{are_right}
use Rattle.solv_plan.specs.Inner.Settling.{demands_settled, Fits}
use Rattle.std.proofs.lemmas.Option.{slice_get-get_or}
use Rattle.solv_plan.proofs.Joining.{loop_found, loop_goes_on}
use Rattle.solv_plan.proofs.Recalled.{next_left, demand_at}
use Rattle.solv_plan.proofs.AllOut.{demand_here}
use Rattle.solv_plan.proofs.remembering.recall_demands.Goals as goal

pub loop-place-init : goal.loop-place-init
loop-place-init c =
    let known : ℤ → Bool = is_fact c.args.known.now.lits in
    let on : List Bool = c.args.enabled.now in
    let xs : List Demand = c.args.demands.now in
    let E : List Entry = c.first_unsettled-from.new.self in
    let right : are_right (demands_settled xs) E ≡ true = ap (are_right (demands_settled xs)) c.first_unsettled-from.ensures.same ∙ c.requires.right in
    let fits : Fits known E = subst (Fits known) (sym c.first_unsettled-from.ensures.same) c.requires.fits in
    record {
      right = right;
      fits = fits;
      quiet = c.requires.quiet;
      left = ap (first_ask known) (c.first_enabled-place.ensures.asked known) ∙ next_left known (demand_queries known on) xs (demands_settled xs) c.first_unsettled-from.new.self right fits (λ r inside i x e s. demand_at known on xs r inside i x e s)
          0 c.first_unsettled-from.result (omega arith) c.first_unsettled-from.ensures.settled refl;
    }

pub returns-then-is_some-clause-asked : goal.returns-then-is_some-clause-asked
returns-then-is_some-clause-asked c =
    let known : ℤ → Bool = is_fact c.args.known.now.lits in
    loop_found known (demand_queries known c.args.enabled.now) c.args.demands.now c.loop-place.place c.index-demands-place.result c.recall_demand-ask.result c.loop-place-test.true c.index-demands-place.is c.loop-place.invariant.left c.recall_demand-ask.ensures.asked (sym c.is_some.ensures ∙ c.if-is_some.true)

pub returns-then-is_some-clause-right : goal.returns-then-is_some-clause-right
returns-then-is_some-clause-right c =
    let xs : List Demand = c.args.demands.now in
    c.recall_demand-ask.ensures.right xs (slice_get-get_or xs c.loop-place.place c.index-demands-place.result c.loop-place-test.true ∙ ap Some (sym c.index-demands-place.is)) c.loop-place.invariant.right

pub returns-then-is_some-clause-quiet : goal.returns-then-is_some-clause-quiet
returns-then-is_some-clause-quiet c =
    let xs : List Demand = c.args.demands.now in
    c.recall_demand-ask.ensures.quiet xs (slice_get-get_or xs c.loop-place.place c.index-demands-place.result c.loop-place-test.true ∙ ap Some (sym c.index-demands-place.is)) c.loop-place.invariant.quiet

pub recall_demand-ask-requires-clause-quiet : goal.recall_demand-ask-requires-clause-quiet
recall_demand-ask-requires-clause-quiet c =
    let xs : List Demand = c.args.demands.now in
    demand_here (is_fact c.args.known.now.lits) xs c.loop-place.quiet c.loop-place.place c.index-demands-place.result (slice_get-get_or xs c.loop-place.place c.index-demands-place.result c.loop-place-test.true ∙ ap Some (sym c.index-demands-place.is)) c.loop-place.invariant.quiet

pub loop-place-preserved : goal.loop-place-preserved
loop-place-preserved c =
    let known : ℤ → Bool = is_fact c.args.known.now.lits in
    let on : List Bool = c.args.enabled.now in
    let xs : List Demand = c.args.demands.now in
    let at : ℕ = c.loop-place.place in
    let x : Demand = c.index-demands-place.result in
    let entries : List Entry = c.recall_demand-ask.new.settled in
    let right : are_right (demands_settled xs) entries ≡ true = c.recall_demand-ask.ensures.right xs (slice_get-get_or xs at x c.loop-place-test.true ∙ ap Some (sym c.index-demands-place.is)) c.loop-place.invariant.right in
    record {
      right = right;
      fits = c.recall_demand-ask.ensures.fits;
      quiet = c.recall_demand-ask.ensures.quiet xs (slice_get-get_or xs at x c.loop-place-test.true ∙ ap Some (sym c.index-demands-place.is)) c.loop-place.invariant.quiet;
      left = ap (first_ask known) (c.first_enabled-next.ensures.asked known) ∙ next_left known (demand_queries known on) xs (demands_settled xs) entries right c.recall_demand-ask.ensures.fits (λ r inside i y e s. demand_at known on xs r inside i y e s)
          (at + 1) c.first_open-after.result c.first_open-after.ensures.forward c.first_open-after.ensures.settled
          (loop_goes_on known (demand_queries known on) xs at x c.recall_demand-ask.result c.loop-place-test.true c.index-demands-place.is c.loop-place.invariant.left c.recall_demand-ask.ensures.asked (sym c.is_some.ensures ∙ c.if-is_some.false));
    }
