use Rattle.std.proofs.Common.{◌≡◌, Some, ap, rules, subst, sym}
use Rattle.solv_list.proofs.Answers.{ok_map}
use Rattle.solv_draft.specs.Inner.Calls.{given}
use Rattle.solv_solved.specs.Building.{IsBuilt, of_refusal, of_task, task_of}
use Rattle.solv_solved.specs.Inner.CallNames.{call_name}
use Rattle.solv_solved.specs.declared.building.Given.TheVariants.{Misused}
use Rattle.solv_solved.specs.declared.outcomes.Held.{Held}
use Rattle.solv_solved.specs.declared.outcomes.Held.TheVariants.{Open, Refused}
use Rattle.solv_solved.proofs.outcomes.Held.build.Goals as goal

pub returns-in-Refused-clause-built : goal.returns-in-Refused-clause-built
returns-in-Refused-clause-built c =
    let due = c.in-Refused.due in
    let same : Refused due ≡ c.args.self.now = search rules in
    subst (λ (old : Held). IsBuilt (call_name c.args.call.now) (given c.args.call.now) old (Refused due) Misused) same (of_refusal due)

pub returns-in-Open-clause-built : goal.returns-in-Open-clause-built
returns-in-Open-clause-built c =
    let opened = c.in-Open.opened in
    let same : Open opened ≡ c.args.self.now = search rules in
    let there : task_of c.args.self.now ≡ Some opened.draft.task = ap (λ (old : Held). task_of old) (sym same) in
    ok_map _ _ c.build-given.result (λ how h. of_task c.args.self.now opened.draft.task c.build-given.new.self how there h) c.build-given.ensures.built
