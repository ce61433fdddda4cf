use Rattle.std.proofs.Common.{subst, sym}
use Rattle.std.specs.Prelude.{IfOk}
use Rattle.solv_list.proofs.Answers.{ok_map}
use Rattle.solv_solved.specs.Anew.{IsHeldAgain, of_answer, of_open, of_refusal}
use Rattle.solv_solved.specs.declared.anew.Again.TheVariants.{Misused}
use Rattle.solv_solved.specs.declared.outcomes.Held.{Held}
use Rattle.solv_solved.specs.declared.outcomes.Held.TheVariants.{Answered}
use Rattle.solv_solved.proofs.outcomes.Held.solve_again.Goals as goal

pub returns-in-Answered-clause-ended : goal.returns-in-Answered-clause-ended
returns-in-Answered-clause-ended c =
    let new = c.solve_again.new.self in
    subst (λ (old : Held). IfOk c.solve_again.result (IsHeldAgain c.args.budget c.args.flags.now c.args.rows.now old (Answered new))) (sym c.in-Answered.is)
    (ok_map _ _ c.solve_again.result (λ how h. of_answer c.in-Answered.solved new how h) c.solve_again.ensures.ended)

pub returns-in-Refused-clause-ended : goal.returns-in-Refused-clause-ended
returns-in-Refused-clause-ended c = subst (λ (held : Held). IsHeldAgain c.args.budget c.args.flags.now c.args.rows.now held held Misused) (sym c.in-Refused.is) (of_refusal c.in-Refused.field-0)

pub returns-in-Open-clause-ended : goal.returns-in-Open-clause-ended
returns-in-Open-clause-ended c = subst (λ (held : Held). IsHeldAgain c.args.budget c.args.flags.now c.args.rows.now held held Misused) (sym c.in-Open.is) (of_open c.in-Open.field-0)
