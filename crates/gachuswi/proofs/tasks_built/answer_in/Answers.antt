use Rattle.std.proofs.Common.{◌≡◌, ℤ, Some, rules, subst, sym, to_z, w32}
use Rattle.solv_solved.specs.Building.{IsTaskSolved}
use Rattle.solv_solved.specs.declared.anew.Again.{Again}
use Rattle.solv_solved.specs.declared.outcomes.Held.{Held}
use Rattle.gachuswi.specs.Calls.{no_memory}
use Rattle.gachuswi.specs.Tasks.{number_of}
use Rattle.gachuswi.specs.TasksBuilt.{IsAnswerCall, answered, no_task, passes, ran_out}
use Rattle.gachuswi.proofs.tasks_built.answer_in.Goals as goal

pub returns-in-Ok-Answered : goal.returns-in-Ok-Answered
returns-in-Ok-Answered c =
    let old = c.args.held.now in
    let new = c.solve.new.self in
    let code : to_z w32 c.number.result ≡ number_of (Some new) = search rules in
    subst (λ (z : ℤ). IsAnswerCall c.args.budget (Some old) (Some new) z) (sym code)
    (answered old new c.requires (subst (λ (how : Again). IsTaskSolved c.args.budget old new how) c.in-Ok-Answered.field-0-is c.in-Ok-Answered.ensures.solved))

pub returns-in-Ok-Passes : goal.returns-in-Ok-Passes
returns-in-Ok-Passes c =
    let old = c.args.held.now in
    let new = c.solve.new.self in
    passes old new c.requires (subst (λ (how : Again). IsTaskSolved c.args.budget old new how) c.in-Ok-Passes.field-0-is c.in-Ok-Passes.ensures.solved)

pub returns-in-Ok-Misused : goal.returns-in-Ok-Misused
returns-in-Ok-Misused c =
    let old = c.args.held.now in
    let new = c.solve.new.self in
    no_task old new c.requires (subst (λ (how : Again). IsTaskSolved c.args.budget old new how) c.in-Ok-Misused.field-0-is c.in-Ok-Misused.ensures.solved)

pub returns-in-Err : goal.returns-in-Err
returns-in-Err c =
    let old = c.args.held.now in
    subst (λ (new : Held). IsAnswerCall c.args.budget (Some old) (Some new) no_memory) (sym c.in-Err.ensures.same) (ran_out old c.requires)
