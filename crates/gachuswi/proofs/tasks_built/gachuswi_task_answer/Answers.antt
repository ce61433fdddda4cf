use Rattle.std.proofs.Common.{◌≡◌, ◌≤◌, None, Option, pos, rules, subst, sym}
use Rattle.solv_solved.specs.declared.outcomes.Held.{Held}
use Rattle.gachuswi.specs.TasksBuilt.{IsAnswerCall, nothing, too_great}
use Rattle.gachuswi.proofs.tasks_built.gachuswi_task_answer.Goals as goal

pub returns-then-budget-gt-MOST_LEARNT : goal.returns-then-budget-gt-MOST_LEARNT
returns-then-budget-gt-MOST_LEARNT c =
    let not : c.args.budget ≤ 1000000 → ⊥ = search rules in
    too_great c.args.task.now.value not

pub returns-in_default : goal.returns-in_default
returns-in_default c =
    let budget = c.args.budget in
    let before : c.args.task.now.value ≡ None = search rules in
    let after : c.take.new.self.value ≡ None = c.take.ensures.left in
    subst (λ (v : Option Held). IsAnswerCall budget v c.take.new.self.value (pos 8)) (sym before) (subst (λ (w : Option Held). IsAnswerCall budget None w (pos 8)) (sym after) nothing)
