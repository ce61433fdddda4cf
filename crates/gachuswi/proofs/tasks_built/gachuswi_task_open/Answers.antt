use Rattle.std.proofs.Common.{Option, pos, subst, sym}
use Rattle.solv_solved.specs.declared.outcomes.Held.{Held}
use Rattle.gachuswi.specs.TasksBuilt.{IsOpenCall, opened, ran_out}
use Rattle.gachuswi.proofs.tasks_built.gachuswi_task_open.Goals as goal

pub returns-in-Ok : goal.returns-in-Ok
returns-in-Ok c = subst (λ (v : Option Held). IsOpenCall c.args.task.now.value v (pos 0)) (sym c.in-Ok.ensures) (opened c.open.result c.open.ensures)

pub returns-in-Err : goal.returns-in-Err
returns-in-Err c = ran_out
