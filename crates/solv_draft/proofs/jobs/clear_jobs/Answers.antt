use Rattle.std.proofs.Common.{◌≡◌, ◌∙◌, [], List, sym, subst}
use Rattle.solv_pool.specs.declared.jobs.Job.{Job}
use Rattle.solv_draft.specs.Drafts.{drawn, no_jobs_given}
use Rattle.solv_draft.specs.Inner.Drafts.{HasDrawn}
use Rattle.solv_draft.proofs.Drawing.{jobs_cleared}
use Rattle.solv_draft.proofs.jobs.clear_jobs.Goals as goal

pub returns-clause-done : goal.returns-clause-done
returns-clause-done c =
    let none : c.wrap.result ≡ [] = c.wrap.ensures ∙ c.new.ensures.items in
    subst (λ (jobs : List Job). HasDrawn (record c.args.task.now { jobs = jobs }) (no_jobs_given (drawn c.args.task.now))) (sym none) (jobs_cleared c.args.task.now c.requires)
