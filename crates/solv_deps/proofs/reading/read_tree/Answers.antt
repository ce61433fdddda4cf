use Rattle.std.proofs.Common.{◌≡◌, ℕ, List, Result, subst}
use Rattle.std.specs.Prelude.{IfOk, IfErr, Err}
use Rattle.solv_base.specs.Dependency.{Dep}
use Rattle.solv_deps.specs.declared.fault.DepFault.{DepFault}
use Rattle.solv_deps.specs.Inner.Points.{Ends}
use Rattle.solv_deps.proofs.Points.{goes_first, goes_last}
use Rattle.solv_deps.proofs.reading.read_tree.Goals as goal

pub loop-word-init : goal.loop-word-init
loop-word-init c = goes_first c.args.draft.now c.new-outer.result c.args.text.now c.requires c.new-outer.ensures

pub returns-clause-ok : goal.returns-clause-ok
returns-clause-ok c =
    let P : Result (Dep (List ℕ)) DepFault → Type 0 = λ a. IfOk c.finish.result (λ id. Ends c.finish.new.draft id a) in
    subst P (goes_last c.loop-word.draft c.loop-word.outer c.loop-word.count c.loop-word.due c.args.text.now c.loop-word.rest.now c.loop-word.invariant c.in_default.ensures.none) c.finish.ensures.ok

pub returns-clause-err : goal.returns-clause-err
returns-clause-err c =
    let P : Result (Dep (List ℕ)) DepFault → Type 0 = λ a. IfErr c.finish.result (λ e. a ≡ Err e) in
    subst P (goes_last c.loop-word.draft c.loop-word.outer c.loop-word.count c.loop-word.due c.args.text.now c.loop-word.rest.now c.loop-word.invariant c.in_default.ensures.none) c.finish.ensures.err
