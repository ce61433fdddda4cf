use Rattle.std.proofs.Common.{◌∙◌, ℕ, List, ap, subst, arith}
use Rattle.std.specs.List.{list_all}
use Rattle.std.specs.Option.{IfSome}
use Rattle.std.specs.Prelude.{Option, IfOk}
use Rattle.solv_core.specs.Cores.{CoreOf}
use Rattle.solv_core.specs.Inner.Contradictions.{AreRefuted}
use Rattle.solv_remedy.specs.Inner.Trying.{is_off_in, IsLogOf}
use Rattle.solv_remedy.specs.Inner.Runs.{IsOf}
use Rattle.solv_remedy.specs.Inner.Conflicts.{listed_of, AreApart, AreMore, AreSettled, IsRest}
use Rattle.solv_remedy.specs.declared.smallest.Conflict.{Conflict}
use Rattle.solv_remedy.proofs.Ledgers.{on_ok}
use Rattle.solv_remedy.proofs.Ran.{ran_then, ran_within}
use Rattle.solv_remedy.proofs.More.{more_none}
use Rattle.solv_remedy.proofs.collecting.probe_on.Goals as goal
use Rattle.solv_remedy.proofs.collecting.probe_on.Goals.{In-Some}

pub returns-in_err-found-clause-has_run : goal.returns-in_err-found-clause-has_run
returns-in_err-found-clause-has_run c = ran_within (omega arith) c.refuted_alone.ensures.has_run

pub returns-in_err-put_refuted-in-Some-clause-has_run : goal.returns-in_err-put_refuted-in-Some-clause-has_run
returns-in_err-put_refuted-in-Some-clause-has_run c = ran_within (omega arith) c.refuted_alone.ensures.has_run

pub returns-in-None-clause-has_run : goal.returns-in-None-clause-has_run
returns-in-None-clause-has_run c = ran_within (omega arith) c.refuted_alone.ensures.has_run

pub returns-in-None-clause-more : goal.returns-in-None-clause-more
returns-in-None-clause-more c = more_none c.args.conflicts.now.items

pub begin-requires-clause-droppable : goal.begin-requires-clause-droppable
begin-requires-clause-droppable c =
    ap (λ l. list_all (is_off_in c.args.setting.now.fixed.now) (listed_of l)) c.deref-2.ensures.value ∙ c.in_ok-put_refuted-in-Some.ensures.apart.rules.droppable

pub returns-clause-has_run : goal.returns-clause-has_run
returns-clause-has_run c = ran_then (omega arith) c.refuted_alone.ensures.has_run c.begin.ensures.has_run

pub returns-clause-apart : goal.returns-clause-apart
returns-clause-apart c = on_ok c.begin.result (AreApart c.args.setting.now.fixed.now c.put_refuted.new.conflicts.items) c.in_ok-put_refuted-in-Some.ensures.apart

pub returns-clause-more : goal.returns-clause-more
returns-clause-more c = on_ok c.begin.result (AreMore c.args.conflicts.now.items c.put_refuted.new.conflicts.items) c.in_ok-put_refuted-in-Some.ensures.more

-- what the run named
named : (c : In-Some) → (asked : List ℕ) × AreRefuted c.args.core.now.made.clauses c.args.core.now.made.owners c.args.core.now.made.packages c.args.setting.now.fixed.now asked c.in-Some.found.items
named c =
    let core = c.args.core.now.made in
    let O : Option _ → Type 0 = λ o. IfSome o (λ found. (asked : List ℕ) × AreRefuted core.clauses core.owners core.packages c.args.setting.now.fixed.now asked found.items) in
    subst O c.in-Some.is c.in_ok-found.ensures.refuted

pub returns-clause-settled : goal.returns-clause-settled
returns-clause-settled c = λ r up all.
    let n = named ((goal.at.returns-clause-settled c).In-Some) in
    on_ok c.begin.result (AreSettled r c.args.core.now.made c.put_refuted.new.conflicts.items)
    (c.in_ok-put_refuted-in-Some.ensures.settled r c.args.setting.now.phases.now c.args.core.now.made n.0 up n.1 all)

pub returns-clause-rest : goal.returns-clause-rest
returns-clause-rest c = λ r up log.
    let P : CoreOf → Type 0 = λ v. IsOf r c.args.setting.now v → IsLogOf r v c.args.next.rules c.args.next.log → IfOk c.begin.result (IsRest r v (listed_of c.deref-2.result.now)) in
    let Q : List Conflict → Type 0 = λ l. IfOk c.begin.result (IsRest r c.args.core.now.made (listed_of l)) in
    subst Q c.deref-2.ensures.value (subst P c.refuted_alone.ensures.has_run.core (c.begin.ensures.rest r) up log)
