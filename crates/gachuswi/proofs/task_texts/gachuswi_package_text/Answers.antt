use Rattle.std.proofs.Common.{◌≡◌, Option, Some, rules}
use Rattle.std.specs.Prelude.{IfOk}
use Rattle.solv_solved.specs.declared.outcomes.Held.{Held}
use Rattle.gachuswi.specs.TaskTexts.{IsTextCall, package_text}
use Rattle.gachuswi.proofs.TextCalls.{asked_of}
use Rattle.gachuswi.proofs.task_texts.gachuswi_package_text.Goals as goal

pub returns-clause-text : goal.returns-clause-text
returns-clause-text c =
    let value : Option Held = c.args.task.now.value in
    let kept : Some c.in-Some.kept.value ≡ value = search rules in
    let asked : IfOk c.package_text-made.result (λ t. t ≡ package_text value c.args.pack) = asked_of (λ v. package_text v c.args.pack) value c.in-Some.kept.value c.package_text-made.result kept (search rules) in
    let is : IsTextCall (package_text value c.args.pack) c.args.into.now c.hand_out.new.into c.args.count.now c.hand_out.new.count c.hand_out.result = c.hand_out.ensures.text (package_text value c.args.pack) asked in
    search rules
