use Rattle.std.proofs.Common.{◌≡◌, None, Option, pos, rules, subst, sym}
use Rattle.solv_draft.specs.Inner.Calls.{given}
use Rattle.solv_solved.specs.Inner.CallNames.{call_name}
use Rattle.solv_solved.specs.declared.outcomes.Held.{Held}
use Rattle.gachuswi.specs.TasksBuilt.{IsBuildCall, nothing}
use Rattle.gachuswi.proofs.tasks_built.build.Goals as goal

pub returns-in_default : goal.returns-in_default
returns-in_default c =
    let before : c.args.task.now.value ≡ None = search rules in
    let after : c.take.new.self.value ≡ None = c.take.ensures.left in
    subst (λ (v : Option Held). IsBuildCall (call_name c.args.call.now) (given c.args.call.now) v c.take.new.self.value (pos 8)) (sym before)
    (subst (λ (w : Option Held). IsBuildCall (call_name c.args.call.now) (given c.args.call.now) None w (pos 8)) (sym after) nothing)
