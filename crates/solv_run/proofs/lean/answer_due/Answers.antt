use Rattle.std.proofs.Common.{◌≡◌, List, [], ap, length, map, sym, subst, arith}
use Rattle.solv_answers.specs.Answers.{first_limit}
use Rattle.solv_rounds.proofs.FirstLimits.{all_fit}
use Rattle.solv_script.specs.Inner.Turns.{first_turn}
use Rattle.solv_script.specs.Rounds.{tasks, turn_of, turns, with_jobs_of}
use Rattle.solv_script.specs.declared.scripts.Round.{Round}
use Rattle.solv_run.specs.Rounds.{IsGoodAnswer}
use Rattle.solv_run.specs.Inner.Rounds.{HasBegun}
use Rattle.solv_run.specs.declared.reports.Reached.{Reached}
use Rattle.solv_run.proofs.RoundByRound.{all_end, first_begun, spent_begun}
use Rattle.solv_run.proofs.lean.answer_due.Goals as goal

pub add-requires-clause-good : goal.add-requires-clause-good
add-requires-clause-good c =
    let answered = c.args.given.answered in
    subst (λ n. IsGoodAnswer c.args.script.now.task n answered.answer answered.ledger) (sym c.none_begun-begun.ensures.left) c.requires.good

pub concluded-requires-clause-fits : goal.concluded-requires-clause-fits
concluded-requires-clause-fits c =
    let script = c.args.script.now in
    all_fit script c.requires.fits (sym (ap (λ (later : List Round). first_limit (map (with_jobs_of script.task) later)) c.requires.alone))

pub concluded-requires-clause-all : goal.concluded-requires-clause-all
concluded-requires-clause-all c =
    let script = c.args.script.now in
    let command = c.args.command.now in
    let none = c.none_begun-begun.ensures in
    let later = map (with_jobs_of script.task) script.later in
    let has : HasBegun command (tasks script) (turns script) later (map (turn_of script) script.later) c.add.new.self =
    first_begun command (first_turn script) later (map (turn_of script) script.later) c.none_begun-begun.result c.add.new.self
    (ap (λ (q : Reached). q.answers) none.reached) (ap (λ (q : Reached). q.ledgers) none.reached) none.text none.as_wanted none.left c.in_ok-add.ensures.one_more in
    let size : length script.later ≡ 0 = ap length c.requires.alone in
    all_end command script 0 c.add.new.self (omega (arith, size)) (λ e. has)
    (λ e. spent_begun command (tasks script) (turns script) later (map (turn_of script) script.later) c.add.new.self has e)
