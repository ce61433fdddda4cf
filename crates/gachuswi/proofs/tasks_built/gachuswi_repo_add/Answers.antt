use Rattle.std.proofs.Common.{◌≡◌, None, Option, pos, rules, subst, sym}
use Rattle.std.specs.Prelude.{codes}
use Rattle.solv_draft.specs.Drafts.{repo_given}
use Rattle.solv_solved.specs.declared.outcomes.Held.{Held}
use Rattle.gachuswi.specs.TasksBuilt.{IsBuildCall, nothing}
use Rattle.gachuswi.proofs.tasks_built.gachuswi_repo_add.Goals as goal

pub returns-in_default-clause-built : goal.returns-in_default-clause-built
returns-in_default-clause-built c =
    let before : c.args.task.now.value ≡ None = search rules in
    let after : c.take.new.self.value ≡ None = c.take.ensures.left in
    subst (λ (v : Option Held). IsBuildCall (codes "repo") (repo_given c.args.name.now c.args.priority) v c.take.new.self.value (pos 8)) (sym before)
    (subst (λ (w : Option Held). IsBuildCall (codes "repo") (repo_given c.args.name.now c.args.priority) None w (pos 8)) (sym after) nothing)
