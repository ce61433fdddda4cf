use Rattle.std.proofs.Common.{ℕ, List, map, ap, ◌∙◌}
use Rattle.solv_pool.specs.Prelude.{catalog_of, when}
use Rattle.solv_lines.specs.Inner.LineNames.{with_lines, need_lines, reason_lines}
use Rattle.solv_lines.specs.ResultLines.{change_line, order_lines}
use Rattle.solv_lines.proofs.InTurn.{four_in_turn}
use Rattle.solv_lines.proofs.results.put_solved.Goals as goal

pub returns : goal.returns
returns c =
    let catalog = catalog_of c.args.asked.now.task.now in
    let kinds = c.args.asked.now.kinds in
    let changed : List (List ℕ) = when kinds.transaction (map (change_line catalog) c.args.changes.now) in
    let ordered : List (List ℕ) = when kinds.order (order_lines catalog c.args.ordered.now) in
    let reasons : List (List ℕ) = when kinds.reason (reason_lines catalog c.args.set.now c.args.trail.now.events) in
    let needs : List (List ℕ) = need_lines catalog c.args.asked.now.task.now.jobs kinds c.args.set.now in
    c.in_ok-put_needs.ensures
    ∙ ap (λ s. with_lines s needs) (c.in_ok-put_asked_reasons.ensures ∙ ap (λ s. with_lines s reasons) (c.in_ok-put_asked_order.ensures ∙ ap (λ s. with_lines s ordered) c.in_ok-put_asked_changes.ensures))
    ∙ four_in_turn c.args.lines.now changed ordered reasons needs
