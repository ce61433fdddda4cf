use Rattle.std.proofs.Common.{◌≡◌, Some, length, refl, rules, sym, subst}
use Rattle.solv_pool.specs.Prelude.{catalog_of}
use Rattle.solv_list.proofs.Answers.{if_err, ok_map}
use Rattle.solv_answers.specs.Answers.{first_limit}
use Rattle.solv_answers.specs.Inner.Fronts.{MayGoOn}
use Rattle.solv_said.proofs.Fetched.{if_wanting}
use Rattle.solv_script.specs.Rounds.{tasks}
use Rattle.solv_script.specs.declared.scripts.Script.{Script}
use Rattle.solv_rounds.proofs.FirstLimits.{all_fit, later_passed, later_tasks}
use Rattle.solv_rounds.specs.Inner.Fronts.{IsPreparedAt}
use Rattle.solv_proof_run.specs.Inner.Outcomes.{not_asked}
use Rattle.solv_proof_run.specs.Inner.Rounds.{IsReady}
use Rattle.solv_proof_run.proofs.Found.{file_due, file_want, limit_is, same_limit}
use Rattle.solv_proof_run.proofs.outcomes.rounds_outcome.Goals as goal

pub limit_outcome-requires-clause-passed : goal.limit_outcome-requires-clause-passed
limit_outcome-requires-clause-passed g c =
    let passed : Some c.in-Err.fault ≡ first_limit (later_tasks c.args.script.now) = search rules in
    subst (λ (s : Script). first_limit (tasks s) ≡ Some c.in-Err.fault) (sym c.prepare_in_turn.ensures.script) (later_passed c.args.script.now c.in-Err.fault c.requires.prepared.fits passed)

pub last_outcome-requires-clause-ready : goal.last_outcome-requires-clause-ready
last_outcome-requires-clause-ready g c =
    subst (λ (s : Script). IsReady s) (sym c.prepare_in_turn.ensures.script)
    (record { closed = c.requires.closed; forms = c.requires.forms; fits = all_fit c.args.script.now c.requires.prepared.fits (sym c.in-Ok.ensures.fits) })

pub last_outcome-requires-clause-last : goal.last_outcome-requires-clause-last
last_outcome-requires-clause-last g c = subst (λ (s : Script). IsPreparedAt (tasks s) (length s.later) c.in-Ok.last) (sym c.prepare_in_turn.ensures.script) c.in-Ok.ensures.last

pub last_outcome-requires-clause-goes_on : goal.last_outcome-requires-clause-goes_on
last_outcome-requires-clause-goes_on g c = subst (λ (s : Script). MayGoOn (catalog_of s.task) c.in-Ok.last) (sym c.prepare_in_turn.ensures.script) c.in-Ok.ensures.goes_on

pub returns-in-Err-clause-due : goal.returns-in-Err-clause-due
returns-in-Err-clause-due g c =
    ok_map _ _ c.limit_outcome.result (λ outcome h.
    limit_is c.args.script.now c.args.file.now _ refl refl outcome.due outcome.proofs (same_limit c.args.script.now c.prepare_in_turn.new.script outcome.due outcome.proofs c.prepare_in_turn.ensures.script h)) c.limit_outcome.ensures

pub returns-in-Err-clause-wanting : goal.returns-in-Err-clause-wanting
returns-in-Err-clause-wanting g c = if_wanting _ c.limit_outcome.result (not_asked refl)

pub returns-in-Ok-clause-due : goal.returns-in-Ok-clause-due
returns-in-Ok-clause-due g c =
    let fits = all_fit c.args.script.now c.requires.prepared.fits (sym c.in-Ok.ensures.fits) in
    ok_map _ _ c.last_outcome.result (λ outcome h. file_due c.args.script.now c.prepare_in_turn.new.script c.args.file.now _ c.prepare_in_turn.ensures.script fits outcome.due outcome.proofs h) c.last_outcome.ensures.due

pub returns-in-Ok-clause-wanting : goal.returns-in-Ok-clause-wanting
returns-in-Ok-clause-wanting g c =
    if_err c.last_outcome.result (λ e h. file_want c.args.script.now c.prepare_in_turn.new.script c.args.file.now _ c.prepare_in_turn.ensures.script h) c.last_outcome.ensures.wanting
