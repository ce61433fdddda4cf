use Rattle.std.proofs.Common.{◌∙◌, sym, subst}
use Rattle.solv_trail.specs.Inner.Held.{Held}
use Rattle.solv_trail.specs.Inner.Propagated.{IsReasoned}
use Rattle.solv_core.proofs.Bottom.{none_of_none, reasoned_front}
use Rattle.solv_core.proofs.refuting.take_back.Goals as goal

pub returns-then-choices-eq0-clause-no_choice : goal.returns-then-choices-eq0-clause-no_choice
returns-then-choices-eq0-clause-no_choice c = none_of_none c.args.known.now.marks (sym c.choices.ensures.many ∙ c.if-choices-eq0.true)

pub returns-clause-reasoned : goal.returns-clause-reasoned
returns-clause-reasoned c = λ rules used h.
    let P : Held → Type 0 = λ v. IsReasoned rules used v in
    subst P (sym c.cut.ensures) (reasoned_front rules used c.args.known.now c.requires h)
