use Rattle.std.proofs.Common.{◌≡◌, sym, subst, Result}
use Rattle.std.specs.Prelude.{IfOk, IfErr, Err}
use Rattle.solv_deps.specs.declared.fault.DepFault.{DepFault}
use Rattle.solv_deps.specs.Inner.Reading.{Point}
use Rattle.solv_deps.specs.Inner.Points.{Stands}
use Rattle.solv_deps.proofs.Points.{still_in, named_same, stands_evr}
use Rattle.solv_deps.proofs.reading.take_named.Goals as goal

pub take_operator-requires-clause-within : goal.take_operator-requires-clause-within
take_operator-requires-clause-within c = still_in c.args.draft.now c.push-id.new.self c.args.outer.now c.args.rule c.push-id.result _ c.requires.within c.push-id.ensures.entered

pub returns-in-Some-clause-ok : goal.returns-in-Some-clause-ok
returns-in-Some-clause-ok c =
    stands_evr c.args.draft.now c.args.outer.now c.args.count.now c.args.rule c.args.name c.args.word.now c.in-Some.cmp c.requires.within c.requires.room c.requires.few (sym c.in-Some.ensures)

pub returns-in-None-clause-ok : goal.returns-in-None-clause-ok
returns-in-None-clause-ok c =
    let P : Result Point DepFault → Type 0 = λ a. IfOk c.take_operator.result (λ due. Stands c.take_operator.new.draft c.take_operator.new.outer c.take_operator.new.count due a) in
    subst P (named_same c.args.draft.now c.push-id.new.self c.args.outer.now c.args.count.now c.args.rule c.args.name.now c.args.word.now c.push-id.result
    c.requires.within c.push-id.ensures.entered (sym c.in-None.ensures)) c.take_operator.ensures.ok

pub returns-in-None-clause-err : goal.returns-in-None-clause-err
returns-in-None-clause-err c =
    let P : Result Point DepFault → Type 0 = λ a. IfErr c.take_operator.result (λ e. a ≡ Err e) in
    subst P (named_same c.args.draft.now c.push-id.new.self c.args.outer.now c.args.count.now c.args.rule c.args.name.now c.args.word.now c.push-id.result
    c.requires.within c.push-id.ensures.entered (sym c.in-None.ensures)) c.take_operator.ensures.err
