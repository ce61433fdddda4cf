use Rattle.std.proofs.Common.{List, ◌≡◌, map, sym, subst}
use Rattle.std.specs.Prelude.{IfOk}
use Rattle.solv_pool.specs.Prelude.{HardRule, rule_with}
use Rattle.solv_pool.specs.declared.hard_rules.Rule.{Rule}
use Rattle.solv_lines.specs.SolutionTexts.{element}
use Rattle.solv_lines.proofs.solutions.element.Goals as goal

pub returns-in-Dup : goal.returns-in-Dup
returns-in-Dup c =
    let sets = c.args.rules.now.sets in
    let list : List HardRule = map (rule_with sets) c.args.rules.now.list in
    let gone : List HardRule = map (rule_with sets) c.args.gone.now.rules.items in
    let P : Rule → Type 0 = λ rule. IfOk c.dup_text.result (λ text. text ≡ element c.args.task.now list gone c.args.set.now (rule_with sets rule)) in
    subst P (sym c.in-Dup.is) (c.dup_text.ensures sets)
