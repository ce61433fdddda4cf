use Rattle.std.proofs.Common.{◌≡◌, Option, Some, rules}
use Rattle.std.specs.Prelude.{IfOk}
use Rattle.solv_solved.specs.declared.outcomes.Held.{Held}
use Rattle.gachuswi.specs.TaskTexts.{IsTextCall, solution_text}
use Rattle.gachuswi.proofs.TextCalls.{asked_of}
use Rattle.gachuswi.proofs.task_texts.gachuswi_solution_text.Goals as goal

pub returns-clause-text : goal.returns-clause-text
returns-clause-text c =
    let value : Option Held = c.args.task.now.value in
    let kept : Some c.in-Some.kept.value ≡ value = search rules in
    let asked : IfOk c.solution_text-made.result (λ t. t ≡ solution_text value c.args.problem c.args.solution) = asked_of (λ v. solution_text v c.args.problem c.args.solution) value c.in-Some.kept.value c.solution_text-made.result kept (search rules) in
    let is : IsTextCall (solution_text value c.args.problem c.args.solution) c.args.into.now c.hand_out.new.into c.args.count.now c.hand_out.new.count c.hand_out.result = c.hand_out.ensures.text (solution_text value c.args.problem c.args.solution) asked in
    search rules
