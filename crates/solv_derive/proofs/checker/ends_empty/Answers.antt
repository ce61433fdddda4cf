use Rattle.std.proofs.Common.{◌∙◌, sym, ap, length, eqb}
use Rattle.solv_derive.proofs.Steps.{ends_empty_is}
use Rattle.solv_derive.proofs.checker.ends_empty.Goals as goal

pub returns-in-Some : goal.returns-in-Some
returns-in-Some c = c.is_empty.ensures ∙ ap (λ v. eqb (length v) 0) c.held.ensures ∙ sym (ends_empty_is c.args.steps.now c.in-Some.step.now (sym c.in-Some.ensures.value))
