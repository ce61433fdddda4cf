use Rattle.std.proofs.Common.{◌≡◌, ◌∙◌, length, ap, sym, arith, subst}
use Rattle.solv_list.proofs.Answers.{if_err, ok_map}
use Rattle.solv_answers.specs.Answers.{IsPrepared}
use Rattle.solv_answers.specs.Inner.Fronts.{MayGoOn}
use Rattle.solv_pool.specs.Prelude.{Catalog, catalog_of, hard_rules, IsClosed}
use Rattle.solv_pool.specs.TaskForms.{HasForms}
use Rattle.solv_rules.specs.Books.{IsDue, first_fault}
use Rattle.solv_said.proofs.Forming.{asks_formed}
use Rattle.solv_script.specs.declared.scripts.Script.{Script}
use Rattle.solv_rounds.proofs.Turned.{at_place, front_all, front_back, front_catalog, front_later}
use Rattle.solv_rounds.specs.Inner.Fronts.{in_front}
use Rattle.solv_rounds.proofs.limits.prepare_round.Goals as goal

pub to_front-requires-2 : goal.to_front-requires-2
to_front-requires-2 c =
    let same : length c.to_front.new.script.later ≡ length c.args.script.now.later = ap (λ (s : Script). length s.later) c.to_front.ensures ∙ front_later c.args.script.now c.args.place c.requires.place in
    let within = c.requires.place in
    omega (arith, same, within)

pub prepare_next-prepared-requires-clause-closed : goal.prepare_next-prepared-requires-clause-closed
prepare_next-prepared-requires-clause-closed c = subst (λ (s : Script). IsClosed s.task) (sym c.to_front.ensures) (front_all IsClosed c.args.script.now c.args.place c.requires.place c.requires.closed)

pub prepare_next-prepared-requires-clause-formed : goal.prepare_next-prepared-requires-clause-formed
prepare_next-prepared-requires-clause-formed c =
    asks_formed c.to_front.new.script.task (subst (λ (s : Script). HasForms s.task) (sym c.to_front.ensures) (front_all HasForms c.args.script.now c.args.place c.requires.place c.requires.forms))

pub prepare_next-prepared-requires-clause-before : goal.prepare_next-prepared-requires-clause-before
prepare_next-prepared-requires-clause-before c =
    let same = front_catalog c.args.script.now c.args.place c.requires.place in
    subst (λ (s : Script). MayGoOn (catalog_of s.task) c.args.before) (sym c.to_front.ensures) (subst (λ (k : Catalog). MayGoOn k c.args.before) (sym same) c.requires.before)

pub returns-clause-goes_on : goal.returns-clause-goes_on
returns-clause-goes_on c =
    let same = front_catalog c.args.script.now c.args.place c.requires.place in
    ok_map _ _ c.prepare_next-prepared.result (λ p is.
    subst (λ (k : Catalog). MayGoOn k p) same (subst (λ (s : Script). MayGoOn (catalog_of s.task) p) c.to_front.ensures is)) c.prepare_next-prepared.ensures.goes_on

pub returns-clause-script : goal.returns-clause-script
returns-clause-script c = c.to_front-2.ensures ∙ ap (in_front c.args.place) c.to_front.ensures ∙ front_back c.args.script.now c.args.place c.requires.place

pub returns-clause-prepared : goal.returns-clause-prepared
returns-clause-prepared c =
    ok_map _ _ c.prepare_next-prepared.result (λ p is.
    at_place (λ task. IsPrepared task p) c.args.script.now c.args.place c.requires.place (subst (λ (s : Script). IsPrepared s.task p) c.to_front.ensures is)) c.prepare_next-prepared.ensures.prepared

pub returns-clause-fault : goal.returns-clause-fault
returns-clause-fault c =
    if_err c.prepare_next-prepared.result (λ f is.
    at_place (λ task. IsDue (first_fault (catalog_of task) 0 (hard_rules task)) f) c.args.script.now c.args.place c.requires.place (subst (λ (s : Script). IsDue (first_fault (catalog_of s.task) 0 (hard_rules s.task)) f) c.to_front.ensures is)) c.prepare_next-prepared.ensures.fault
