use Rattle.std.proofs.Common.{None, Some, subst, sym}
use Rattle.solv_pool.specs.declared.tasks.Task.{Task}
use Rattle.solv_solved.specs.Inner.Finding.{IsFound, IsFoundIn}
use Rattle.solv_solved.specs.declared.outcomes.Held.{Held}
use Rattle.solv_solved.proofs.outcomes.Held.found.Goals as goal

pub returns-in_ok-found-in-Answered : goal.returns-in_ok-found-in-Answered
returns-in_ok-found-in-Answered c = subst (λ (held : Held). IsFoundIn c.args.budget held (Some c.in_ok-found-in-Answered.found)) (sym c.in-Answered.is) c.in_ok-found-in-Answered.ensures

pub returns-in-Refused : goal.returns-in-Refused
returns-in-Refused c = subst (λ (held : Held). IsFoundIn c.args.budget held None) (sym c.in-Refused.is) tt

pub returns-in_ok-found-in-Open : goal.returns-in_ok-found-in-Open
returns-in_ok-found-in-Open c = subst (λ (held : Held). IsFoundIn c.args.budget held (Some c.in_ok-found-in-Open.found)) (sym c.in-Open.is)
    (subst (λ (task : Task). IsFound c.args.budget task c.in_ok-found-in-Open.found) c.lent.ensures.task c.in_ok-found-in-Open.ensures)
