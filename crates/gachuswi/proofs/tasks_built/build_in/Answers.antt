use Rattle.std.proofs.Common.{subst}
use Rattle.solv_draft.specs.Inner.Calls.{given}
use Rattle.solv_solved.specs.Building.{IsBuilt}
use Rattle.solv_solved.specs.Inner.CallNames.{call_name}
use Rattle.solv_solved.specs.declared.building.Given.{Given}
use Rattle.gachuswi.specs.TasksBuilt.{has_built, names_none, ran_out, refuses}
use Rattle.gachuswi.proofs.tasks_built.build_in.Goals as goal

pub returns-in-Ok-Done : goal.returns-in-Ok-Done
returns-in-Ok-Done c =
    has_built c.args.held.now c.build.new.self
    (subst (λ (how : Given). IsBuilt (call_name c.args.call.now) (given c.args.call.now) c.args.held.now c.build.new.self how) c.in-Ok-Done.field-0-is c.in-Ok-Done.ensures.built)

pub returns-in-Ok-Refuses : goal.returns-in-Ok-Refuses
returns-in-Ok-Refuses c =
    refuses c.args.held.now c.build.new.self
    (subst (λ (how : Given). IsBuilt (call_name c.args.call.now) (given c.args.call.now) c.args.held.now c.build.new.self how) c.in-Ok-Refuses.field-0-is c.in-Ok-Refuses.ensures.built)

pub returns-in-Ok-Misused : goal.returns-in-Ok-Misused
returns-in-Ok-Misused c =
    names_none c.args.held.now c.build.new.self
    (subst (λ (how : Given). IsBuilt (call_name c.args.call.now) (given c.args.call.now) c.args.held.now c.build.new.self how) c.in-Ok-Misused.field-0-is c.in-Ok-Misused.ensures.built)

pub returns-in-Err : goal.returns-in-Err
returns-in-Err c = ran_out c.args.held.now c.build.new.self c.in-Err.ensures.same
