use Rattle.std.proofs.Common.{◌≡◌, sym, subst}
use Rattle.std.specs.Prelude.{OnOk}
use Rattle.solv_lines.specs.Inner.LineNames.{with_lines}
use Rattle.solv_lines.specs.Inner.ResultLines.{outcome_lines}
use Rattle.solv_lines.specs.declared.outcomes.Outcome.{Outcome}
use Rattle.solv_lines.proofs.results.put_outcome.Goals as goal

pub returns-in-Solved : goal.returns-in-Solved
returns-in-Solved c =
    let P : Outcome → Type 0 = λ o. OnOk c.put_solved.result (c.put_solved.new.lines ≡ with_lines c.args.lines.now (outcome_lines c.args.asked.now.task.now c.args.rules.now c.args.asked.now.kinds o)) in
    subst P (sym c.in-Solved.is) c.put_solved.ensures
