use Rattle.std.proofs.Common.{◌≡◌, ◌≤◌, None, Option, pos, rules, subst, sym}
use Rattle.solv_solved.specs.declared.outcomes.Held.{Held}
use Rattle.gachuswi.specs.TasksAnew.{IsAgainCall, nothing, too_great}
use Rattle.gachuswi.proofs.tasks_anew.gachuswi_task_solve_again.Goals as goal

pub returns-then-budget-gt-MOST_LEARNT : goal.returns-then-budget-gt-MOST_LEARNT
returns-then-budget-gt-MOST_LEARNT c =
    let not : c.args.budget ≤ 1000000 → ⊥ = search rules in
    too_great c.args.task.now.value not

pub returns-in_default : goal.returns-in_default
returns-in_default c =
    let budget = c.args.budget in
    let flags = c.args.flags.now in
    let jobs = c.args.jobs.now in
    let before : c.args.task.now.value ≡ None = search rules in
    let after : c.take.new.self.value ≡ None = c.take.ensures.left in
    subst (λ (v : Option Held). IsAgainCall budget flags jobs v c.take.new.self.value (pos 8)) (sym before) (subst (λ (w : Option Held). IsAgainCall budget flags jobs None w (pos 8)) (sym after) nothing)
