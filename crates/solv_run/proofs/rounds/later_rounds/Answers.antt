use Rattle.std.proofs.Common.{◌∙◌, ◌+◌, ◌<◌, ◌≤◌, None, length, map, refl, rules, sym, subst}
use Rattle.std.specs.Prelude.{slice_get, IfSome}
use Rattle.solv_pool.specs.Prelude.{catalog_of}
use Rattle.solv_answers.specs.Inner.Fronts.{MayGoOn}
use Rattle.solv_rounds.proofs.FirstLimits.{due_of, next_limit, no_limit}
use Rattle.solv_rounds.specs.Inner.Fronts.{IsDueAt, IsLimitAt}
use Rattle.solv_script.specs.Rounds.{tasks, turn_of, turns, with_jobs_of}
use Rattle.solv_script.specs.declared.scripts.Script.{Script}
use Rattle.solv_run.specs.Inner.Rounds.{GoesOn}
use Rattle.solv_run.proofs.RoundByRound.{all_end, spent_begun, turn_goes}
use Rattle.solv_run.proofs.rounds.later_rounds.Goals as goal

pub loop-place-init : goal.loop-place-init
loop-place-init c =
    let script = c.args.script.now in
    record {
      script = refl;
      goes_on = c.requires.first;
      left = c.requires.left;
      so_far = refl;
      calm = λ e. c.requires.begun;
      ended = λ e. spent_begun c.args.command.now (tasks script) (turns script) (map (with_jobs_of script.task) script.later) (map (turn_of script) script.later) c.args.begun.now c.requires.begun e;
    }

pub later_round-requires-clause-before : goal.later_round-requires-clause-before
later_round-requires-clause-before c = subst (λ (s : Script). MayGoOn (catalog_of s.task) c.loop-place.prepared) (sym c.loop-place.invariant.script) c.loop-place.invariant.goes_on

pub loop-place-preserved : goal.loop-place-preserved
loop-place-preserved c =
    let inv = c.loop-place.invariant in
    let script = c.args.script.now in
    let place = c.loop-place.place in
    let within : place < length script.later = search rules in
    let is = subst (λ (s : Script). IfSome (slice_get s.later place) (λ r. GoesOn c.args.command.now (turn_of s r) c.loop-place.begun c.later_round.new.begun)) inv.script c.in-Ok.ensures.begun in
    let fits : IsLimitAt (tasks script) (place + 1) None = subst (λ (s : Script). IsLimitAt (tasks s) (place + 1) None) inv.script c.in-Ok.ensures.fits in
    let both = turn_goes c.args.command.now script place within c.loop-place.begun c.later_round.new.begun inv.calm inv.ended is in
    record {
      script = c.later_round.ensures.script ∙ inv.script;
      goes_on = subst (λ (s : Script). MayGoOn (catalog_of s.task) c.in-Ok.next) inv.script c.in-Ok.ensures.goes_on;
      left = c.in-Ok.ensures.left;
      so_far = next_limit script place fits inv.so_far;
      calm = both.0;
      ended = both.1;
    }

pub returns-in-Err-clause-fault : goal.returns-in-Err-clause-fault
returns-in-Err-clause-fault c =
    let inv = c.loop-place.invariant in
    let place = c.loop-place.place in
    let at : IsDueAt (tasks c.args.script.now) (place + 1) c.in-Err.fault = subst (λ (s : Script). IsDueAt (tasks s) (place + 1) c.in-Err.fault) inv.script c.in-Err.ensures.fault in
    due_of c.args.script.now place c.in-Err.fault at inv.so_far

pub returns-clause-all : goal.returns-clause-all
returns-clause-all c =
    let script = c.args.script.now in
    let end : length script.later ≤ c.loop-place.place = search rules in
    all_end c.args.command.now script c.loop-place.place c.loop-place.begun end c.loop-place.invariant.calm c.loop-place.invariant.ended

pub returns-clause-fits : goal.returns-clause-fits
returns-clause-fits c =
    let script = c.args.script.now in
    let end : length script.later ≤ c.loop-place.place = search rules in
    sym (no_limit script c.loop-place.place end c.loop-place.invariant.so_far)
