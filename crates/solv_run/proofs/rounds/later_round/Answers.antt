use Rattle.std.proofs.Common.{◌∙◌, suc, ap, sym, subst}
use Rattle.solv_pool.specs.Prelude.{Catalog, catalog_of, IsClosed}
use Rattle.solv_pool.specs.TaskForms.{HasForms}
use Rattle.solv_answers.specs.Inner.Fronts.{MayGoOn}
use Rattle.solv_list.proofs.Answers.{ok_map}
use Rattle.solv_rounds.proofs.Turned.{front_all, front_catalog, turned_back}
use Rattle.solv_script.specs.Inner.Turns.{exchanged}
use Rattle.solv_script.specs.declared.scripts.Script.{Script}
use Rattle.solv_run.proofs.RoundByRound.{one_later}
use Rattle.solv_run.proofs.RoundLimits.{due_there, fits_there}
use Rattle.solv_run.proofs.rounds.later_round.Goals as goal

pub next_round-prepared-requires-clause-closed : goal.next_round-prepared-requires-clause-closed
next_round-prepared-requires-clause-closed c =
    subst (λ (s : Script). IsClosed s.task) (sym c.turn.ensures) (front_all IsClosed c.args.script.now (suc c.args.place) c.requires.place c.requires.closed)

pub next_round-prepared-requires-clause-forms : goal.next_round-prepared-requires-clause-forms
next_round-prepared-requires-clause-forms c =
    subst (λ (s : Script). HasForms s.task) (sym c.turn.ensures) (front_all HasForms c.args.script.now (suc c.args.place) c.requires.place c.requires.forms)

pub next_round-prepared-requires-clause-before : goal.next_round-prepared-requires-clause-before
next_round-prepared-requires-clause-before c =
    let same = front_catalog c.args.script.now (suc c.args.place) c.requires.place in
    subst (λ (s : Script). MayGoOn (catalog_of s.task) c.args.before) (sym c.turn.ensures) (subst (λ (k : Catalog). MayGoOn k c.args.before) (sym same) c.requires.before)

pub returns-clause-script : goal.returns-clause-script
returns-clause-script c = c.turn-2.ensures ∙ ap (exchanged c.args.place) c.turn.ensures ∙ turned_back c.args.script.now c.args.place c.requires.place

pub returns-clause-begun : goal.returns-clause-begun
returns-clause-begun c =
    one_later c.args.command.now c.args.script.now c.args.place c.requires.place c.next_round-prepared.result c.turn.new.self c.turn.ensures c.args.begun.now c.next_round-prepared.new.begun c.next_round-prepared.ensures.begun

pub returns-clause-fits : goal.returns-clause-fits
returns-clause-fits c = fits_there c.args.script.now c.args.place c.requires.place c.next_round-prepared.result c.turn.new.self c.turn.ensures c.next_round-prepared.ensures.fits

pub returns-clause-fault : goal.returns-clause-fault
returns-clause-fault c = due_there c.args.script.now c.args.place c.requires.place c.next_round-prepared.result c.turn.new.self c.turn.ensures c.next_round-prepared.ensures.fault

pub returns-clause-goes_on : goal.returns-clause-goes_on
returns-clause-goes_on c =
    let same = front_catalog c.args.script.now (suc c.args.place) c.requires.place in
    ok_map _ _ c.next_round-prepared.result (λ p is.
    subst (λ (k : Catalog). MayGoOn k p) same (subst (λ (s : Script). MayGoOn (catalog_of s.task) p) c.turn.ensures is)) c.next_round-prepared.ensures.goes_on
