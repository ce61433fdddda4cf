use Rattle.std.proofs.Common.{◌≡◌, arith, None, Some, ap, map, rules, sym, subst}
use Rattle.solv_pool.specs.Prelude.{IsClosed}
use Rattle.solv_pool.specs.TaskForms.{HasForms}
use Rattle.solv_answers.specs.Answers.{first_limit}
use Rattle.solv_rounds.proofs.FirstLimits.{all_fit, later_passed, later_tasks}
use Rattle.solv_rounds.proofs.Turned.{front_all}
use Rattle.solv_script.specs.Inner.Turns.{first_turn}
use Rattle.solv_script.specs.Rounds.{tasks, turn_of, with_jobs_of}
use Rattle.solv_script.specs.declared.scripts.Script.{Script}
use Rattle.solv_run.specs.declared.reports.Reached.{Reached}
use Rattle.solv_run.proofs.RoundByRound.{first_begun}
use Rattle.solv_run.proofs.running.rounds_due.Goals as goal

pub answer_with-requires-clause-closed : goal.answer_with-requires-clause-closed
answer_with-requires-clause-closed c = front_all IsClosed c.args.script.now 0 (omega arith) c.requires.closed

pub answer_with-requires-clause-forms : goal.answer_with-requires-clause-forms
answer_with-requires-clause-forms c = front_all HasForms c.args.script.now 0 (omega arith) c.requires.forms

pub later_rounds-requires-clause-begun : goal.later_rounds-requires-clause-begun
later_rounds-requires-clause-begun c =
    let script = c.args.script.now in
    let none = c.none_begun-begun.ensures in
    first_begun c.args.command.now (first_turn script) (map (with_jobs_of script.task) script.later) (map (turn_of script) script.later) _ c.answer_with.new.begun
    (ap (λ (q : Reached). q.answers) none.reached) (ap (λ (q : Reached). q.ledgers) none.reached) none.text none.as_wanted none.left c.in_ok-first.ensures.one_more

pub passed_due-requires-clause-closed : goal.passed_due-requires-clause-closed
passed_due-requires-clause-closed c = subst (λ (s : Script). IsClosed s.task) (sym c.later_rounds.ensures.script) (front_all IsClosed c.args.script.now 0 (omega arith) c.requires.closed)

pub passed_due-requires-clause-passed : goal.passed_due-requires-clause-passed
passed_due-requires-clause-passed c =
    let passed : Some c.in-Err.fault ≡ first_limit (later_tasks c.args.script.now) = search rules in
    subst (λ (s : Script). first_limit (tasks s) ≡ Some c.in-Err.fault) (sym c.later_rounds.ensures.script) (later_passed c.args.script.now c.in-Err.fault c.requires.first.fits passed)

pub concluded-requires-clause-fits : goal.concluded-requires-clause-fits
concluded-requires-clause-fits c =
    subst (λ (s : Script). first_limit (tasks s) ≡ None) (sym c.later_rounds.ensures.script) (all_fit c.args.script.now c.requires.first.fits (sym c.in-Ok.ensures.fits))
