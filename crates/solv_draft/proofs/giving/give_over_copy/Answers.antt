use Rattle.std.proofs.Common.{◌≡◌, ◌∙◌, subst}
use Rattle.solv_base.specs.Pool.{Held}
use Rattle.solv_draft.specs.Drafts.{drawn}
use Rattle.solv_draft.specs.Inner.Calls.{given}
use Rattle.solv_draft.specs.Inner.Drafts.{HasDrawn}
use Rattle.solv_draft.specs.Inner.Faults.{IsFault}
use Rattle.solv_draft.proofs.giving.give_over_copy.Goals as goal

pub returns-in-Ok-give-clause-done : goal.returns-in-Ok-give-clause-done
returns-in-Ok-give-clause-done c =
    let same : c.replace-before.new.dest ≡ c.args.task.now.pool = c.replace-before.ensures.after ∙ c.in-Ok.ensures in
    subst (λ (pool : Held). HasDrawn c.give.new.task (given c.args.call.now (drawn (record c.args.task.now { pool = pool })))) same c.in-Ok-give.ensures.done

pub returns-in-Err-clause-refused : goal.returns-in-Err-clause-refused
returns-in-Err-clause-refused c =
    let same : c.replace-before.new.dest ≡ c.args.task.now.pool = c.replace-before.ensures.after ∙ c.in-Ok.ensures in
    subst (λ (pool : Held). IsFault c.in-Err.fault (given c.args.call.now (drawn (record c.args.task.now { pool = pool })))) same c.in-Err.ensures.refused
