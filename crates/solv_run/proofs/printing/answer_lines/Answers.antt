use Rattle.std.proofs.Common.{◌≡◌, ℕ, List, ap, sym, subst, ◌∙◌}
use Rattle.std.specs.Prelude.{IfOk}
use Rattle.solv_pool.specs.Prelude.{catalog_of, hard_rules}
use Rattle.solv_rules.specs.Books.{read_rules}
use Rattle.solv_lines.specs.LineSets.{line_set}
use Rattle.solv_lines.specs.ResultLines.{solved_lines}
use Rattle.solv_answers.specs.Answers.{is_transaction}
use Rattle.solv_run.specs.Inner.Texts.{problems_lines}
use Rattle.solv_run.specs.Texts.{answer_lines}
use Rattle.solv_run.proofs.printing.answer_lines.Goals as goal

pub returns-in-Transaction : goal.returns-in-Transaction
returns-in-Transaction c =
    let task = c.args.script.now.task in
    let kinds = c.args.script.now.kinds in
    let found = c.in-Transaction in
    let same : solved_lines (catalog_of task) task.jobs kinds c.held.result.now found.ordered found.trail.events c.held-in-Transaction.result.now ≡ answer_lines task kinds c.args.answer.now =
    ap (λ x. solved_lines (catalog_of task) task.jobs kinds x found.ordered found.trail.events c.held-in-Transaction.result.now) c.held.ensures
    ∙ ap (λ x. solved_lines (catalog_of task) task.jobs kinds found.changes found.ordered found.trail.events x) c.held-in-Transaction.ensures
    ∙ ap (answer_lines task kinds) (sym found.is) in
    let P : List (List ℕ) → Type 0 = λ told. IfOk c.result_lines.result (λ made. made ≡ line_set told) in
    subst P same c.result_lines.ensures

pub returns-in-Problems : goal.returns-in-Problems
returns-in-Problems c =
    let task = c.args.script.now.task in
    let kinds = c.args.script.now.kinds in
    let found = c.in-Problems in
    let rules : read_rules c.args.rules.now ≡ hard_rules task = c.requires.rules (ap is_transaction found.is) in
    let same : problems_lines task (read_rules c.args.rules.now) kinds c.held-in-Problems.result.now ≡ answer_lines task kinds c.args.answer.now =
    ap (λ r. problems_lines task r kinds c.held-in-Problems.result.now) rules ∙ ap (problems_lines task (hard_rules task) kinds) c.held-in-Problems.ensures ∙ ap (answer_lines task kinds) (sym found.is) in
    let P : List (List ℕ) → Type 0 = λ told. IfOk c.lines_of_problems.result (λ made. made ≡ line_set told) in
    subst P same c.lines_of_problems.ensures
