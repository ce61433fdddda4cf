use Rattle.std.proofs.Common.{◌≡◌, ◌∙◌, refl, subst, sym}
use Rattle.solv_pool.specs.declared.tasks.Task.{Task}
use Rattle.solv_draft.specs.Inner.Calls.{given}
use Rattle.solv_solved.specs.Building.{IsGiven, of_task}
use Rattle.solv_solved.specs.Inner.Besides.{IsAnswerTo}
use Rattle.solv_solved.specs.Inner.CallNames.{call_name}
use Rattle.solv_solved.specs.declared.opened.Opened.{Opened}
use Rattle.solv_solved.specs.declared.outcomes.Held.TheVariants.{Answered}
use Rattle.solv_solved.proofs.Built.{as_before_same, given_told, untold}
use Rattle.solv_solved.proofs.with_answer.Solved.build.Goals as goal

pub joined-solved-requires-clause-answer : goal.joined-solved-requires-clause-answer
joined-solved-requires-clause-answer c =
    let stayed : c.give_or_stay-ended.new.self.task ≡ c.of-draft.result.task
    = untold (c.give_or_stay-ended.new.self.task ≡ c.of-draft.result.task) c.give_or_stay-ended.result c.in-Err.ensures.nothing c.give_or_stay-ended.ensures.same in
    let same : c.into_task.result ≡ c.apart-task.result.0 = c.into_task.ensures.task ∙ stayed ∙ c.of-draft.ensures in
    subst (λ (task : Task). IsAnswerTo task c.apart-task.result.1) (sym same) c.apart-task.ensures.answer

pub returns-in-Ok-clause-built : goal.returns-in-Ok-clause-built
returns-in-Ok-clause-built c =
    let name = call_name c.args.call.now in
    let call = given c.args.call.now in
    let new : Opened = record { draft = c.give_or_stay-ended.new.self; said = c.in-Ok.said } in
    let task = c.of-draft.result.task in
    let same : task ≡ c.args.self.script.task = c.of-draft.ensures ∙ c.apart-task.ensures.task in
    let gives : IsGiven name call task new c.in-Ok.given
    = given_told name call task new c.give_or_stay-ended.result c.in-Ok.said c.in-Ok.given c.in-Ok.ensures.told refl
    c.give_or_stay-ended.ensures.done c.give_or_stay-ended.ensures.refused (as_before_same task c.give_or_stay-ended.new.self.task c.give_or_stay-ended.result c.give_or_stay-ended.ensures.same) in
    of_task (Answered c.args.self) c.args.self.script.task new c.in-Ok.given refl (subst (λ (t : Task). IsGiven name call t new c.in-Ok.given) same gives)

pub returns-in-Err-clause-same : goal.returns-in-Err-clause-same
returns-in-Err-clause-same c =
    let stayed : c.give_or_stay-ended.new.self.task ≡ c.of-draft.result.task
    = untold (c.give_or_stay-ended.new.self.task ≡ c.of-draft.result.task) c.give_or_stay-ended.result c.in-Err.ensures.nothing c.give_or_stay-ended.ensures.same in
    c.joined-solved.ensures c.args.self (c.into_task.ensures.task ∙ stayed ∙ c.of-draft.ensures ∙ c.apart-task.ensures.task) c.apart-task.ensures.beside
