use Rattle.std.proofs.Common.{◌≡◌, ◌∙◌, ◌+◌, ℕ, length, rules, subst}
use Rattle.solv_pool.specs.Prelude.{catalog_of}
use Rattle.solv_answers.specs.Inner.Fronts.{MayGoOn}
use Rattle.solv_script.specs.Rounds.{tasks}
use Rattle.solv_script.specs.declared.scripts.Script.{Script}
use Rattle.solv_rounds.proofs.FirstLimits.{due_of, fits_at, next_limit}
use Rattle.solv_rounds.specs.Inner.Fronts.{IsDueAt, IsPreparedAt}
use Rattle.solv_rounds.proofs.limits.prepare_in_turn.Goals as goal

pub loop-place-preserved : goal.loop-place-preserved
loop-place-preserved c =
    let inv = c.loop-place.invariant in
    let script = c.args.script.now in
    let place = c.loop-place.place in
    let next = c.in-Ok.next in
    let held : IsPreparedAt (tasks script) (place + 1) next = subst (λ (s : Script). IsPreparedAt (tasks s) (place + 1) next) inv.script c.in-Ok.ensures.prepared in
    record {
      script = c.prepare_round.ensures.script ∙ inv.script;
      so_far = next_limit script place (fits_at (tasks script) (place + 1) next held) inv.so_far;
      held = held;
      goes_on = subst (λ (s : Script). MayGoOn (catalog_of s.task) next) inv.script c.in-Ok.ensures.goes_on;
    }

pub returns-in-Err-clause-fault : goal.returns-in-Err-clause-fault
returns-in-Err-clause-fault c =
    let inv = c.loop-place.invariant in
    let place = c.loop-place.place in
    let fault = c.in-Err.fault in
    let at : IsDueAt (tasks c.args.script.now) (place + 1) fault = subst (λ (s : Script). IsDueAt (tasks s) (place + 1) fault) inv.script c.in-Err.ensures.fault in
    due_of c.args.script.now place fault at inv.so_far

pub returns-clause-last : goal.returns-clause-last
returns-clause-last c =
    let end : c.loop-place.place ≡ length c.args.script.now.later = search rules in
    subst (λ (n : ℕ). IsPreparedAt (tasks c.args.script.now) n c.loop-place.prepared) end c.loop-place.invariant.held
