use Rattle.std.proofs.Common.{◌≡◌, ◌∙◌, Some, ap, sym}
use Rattle.solv_solved.specs.Building.{task_of}
use Rattle.solv_solved.proofs.Built.{found_of_task, none_found, task_solved}
use Rattle.solv_solved.proofs.outcomes.Held.come_to.Goals as goal

pub returns-in-None : goal.returns-in-None
returns-in-None c = absurd (none_found c.args.budget c.args.self.now c.args.found (sym c.in-None.ensures.task) c.requires)

pub held_of-held-requires-clause-found : goal.held_of-held-requires-clause-found
held_of-held-requires-clause-found c =
    let task : task_of c.args.self.now ≡ Some c.into_task.result = sym c.in-Some.ensures.task ∙ ap Some (sym c.into_task.ensures.task) in
    found_of_task c.args.budget c.args.self.now c.into_task.result c.args.found task c.requires

pub returns-in-Some : goal.returns-in-Some
returns-in-Some c =
    let task : task_of c.args.self.now ≡ Some c.into_task.result = sym c.in-Some.ensures.task ∙ ap Some (sym c.into_task.ensures.task) in
    task_solved c.args.budget c.args.self.now c.held_of-held.result.0 c.into_task.result c.held_of-held.result.1 task c.held_of-held.ensures
