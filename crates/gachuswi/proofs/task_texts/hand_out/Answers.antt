use Rattle.std.proofs.Common.{◌≡◌, ◌∙◌, List, ℕ, Some, Ok, ap, refl, rules}
use Rattle.solv_solved.specs.Fillings.{filled}
use Rattle.gachuswi.specs.TaskTexts.{given}
use Rattle.gachuswi.proofs.TextCalls.{handed}
use Rattle.gachuswi.proofs.task_texts.hand_out.Goals as goal

pub returns-in-Ok-Some-clause-text : goal.returns-in-Ok-Some-clause-text
returns-in-Ok-Some-clause-text c =
    let text : List ℕ = c.in-Ok-Some.text in
    let made : c.args.made ≡ Ok (Some text) = search rules in
    let copied : c.fill.new.into ≡ filled text c.args.into.now = c.fill.ensures ∙ ap (λ t. filled t c.args.into.now) c.held.ensures in
    λ named is. given text (handed c.args.made text made named is) copied c.len.ensures refl
