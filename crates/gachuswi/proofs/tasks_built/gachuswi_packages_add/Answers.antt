use Rattle.std.proofs.Common.{◌≡◌, None, Option, pos, rules, subst, sym}
use Rattle.std.specs.Prelude.{codes}
use Rattle.solv_draft.specs.Drafts.{packages_given}
use Rattle.solv_solved.specs.declared.outcomes.Held.{Held}
use Rattle.gachuswi.specs.TasksBuilt.{IsBuildCall, nothing}
use Rattle.gachuswi.proofs.tasks_built.gachuswi_packages_add.Goals as goal

pub returns-in_default-clause-built : goal.returns-in_default-clause-built
returns-in_default-clause-built c =
    let before : c.args.task.now.value ≡ None = search rules in
    let after : c.take.new.self.value ≡ None = c.take.ensures.left in
    subst (λ (v : Option Held). IsBuildCall (codes "packages") (packages_given c.args.repo c.args.testtags.now) v c.take.new.self.value (pos 8)) (sym before)
    (subst (λ (w : Option Held). IsBuildCall (codes "packages") (packages_given c.args.repo c.args.testtags.now) None w (pos 8)) (sym after) nothing)
