use Rattle.std.proofs.Common.{◌≡◌, Option, Some, pos, rules}
use Rattle.std.specs.Prelude.{IfOk, IfSome}
use Rattle.solv_solved.specs.declared.outcomes.Held.{Held}
use Rattle.gachuswi.specs.TaskTexts.{IsGoodProofOf, IsTextCall, proof_text}
use Rattle.gachuswi.proofs.TextCalls.{asked_of, good_of, good_text}
use Rattle.gachuswi.proofs.task_texts.gachuswi_problem_proof.Goals as goal

pub returns-clause-text : goal.returns-clause-text
returns-clause-text c =
    let value : Option Held = c.args.task.now.value in
    let kept : Some c.in-Some.kept.value ≡ value = search rules in
    let asked : IfOk c.proof_text-made.result (λ t. t ≡ proof_text value c.args.problem) = asked_of (λ v. proof_text v c.args.problem) value c.in-Some.kept.value c.proof_text-made.result kept (search rules) in
    let is : IsTextCall (proof_text value c.args.problem) c.args.into.now c.hand_out.new.into c.args.count.now c.hand_out.new.count c.hand_out.result = c.hand_out.ensures.text (proof_text value c.args.problem) asked in
    search rules

pub returns-clause-good : goal.returns-clause-good
returns-clause-good c =
    let value : Option Held = c.args.task.now.value in
    let kept : Some c.in-Some.kept.value ≡ value = search rules in
    let asked : IfOk c.proof_text-made.result (λ t. t ≡ proof_text value c.args.problem) = asked_of (λ v. proof_text v c.args.problem) value c.in-Some.kept.value c.proof_text-made.result kept (search rules) in
    let is : IsTextCall (proof_text value c.args.problem) c.args.into.now c.hand_out.new.into c.args.count.now c.hand_out.new.count c.hand_out.result = c.hand_out.ensures.text (proof_text value c.args.problem) asked in
    let good : IfOk c.proof_text-made.result (λ t. IfSome t (IsGoodProofOf (Some c.in-Some.kept.value))) = search rules in
    λ done.
    let code : c.hand_out.result ≡ pos 0 = search rules in
    good_text (IsGoodProofOf value) c.proof_text-made.result (proof_text value c.args.problem) is code (c.hand_out.ensures.made code) asked (good_of value c.in-Some.kept.value c.proof_text-made.result kept good)
