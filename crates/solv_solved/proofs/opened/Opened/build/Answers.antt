use Rattle.std.proofs.Common.{refl}
use Rattle.solv_draft.specs.Drafts.{IsAsBefore}
use Rattle.solv_draft.specs.Inner.Calls.{given}
use Rattle.solv_solved.specs.Inner.CallNames.{call_name}
use Rattle.solv_solved.proofs.Built.{given_told, untold}
use Rattle.solv_solved.proofs.opened.Opened.build.Goals as goal

pub returns-in-Ok-clause-built : goal.returns-in-Ok-clause-built
returns-in-Ok-clause-built c =
    let task = c.args.self.now.draft.task in
    given_told (call_name c.args.call.now) (given c.args.call.now) task (record { draft = c.give-ended.new.self; said = c.in-Ok.said }) c.give-ended.result c.in-Ok.said c.in-Ok.given c.in-Ok.ensures.told refl
    c.give-ended.ensures.done c.give-ended.ensures.refused c.give-ended.ensures.same

pub returns-in-Err-clause-same : goal.returns-in-Err-clause-same
returns-in-Err-clause-same c =
    let kept = untold (IsAsBefore c.args.self.now.draft.task c.give-ended.new.self.task) c.give-ended.result c.in-Err.ensures.nothing c.give-ended.ensures.same in
    record { task = kept; said = refl }
