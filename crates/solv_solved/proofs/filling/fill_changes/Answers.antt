use Rattle.std.proofs.Common.{◌∙◌, ◌++◌, ℕ, ap, drop}
use Rattle.solv_solved.specs.Fillings.{change_row}
use Rattle.solv_solved.proofs.Fronts.{filled_by, front_mapped}
use Rattle.solv_solved.proofs.filling.fill_changes.Goals as goal

pub returns : goal.returns
returns c =
    let count : ℕ = c.min-count.result in
    let changes = c.args.changes.now in
    ap (λ front. front ++ drop count c.args.into.now) (c.write_changes.ensures ∙ front_mapped change_row count changes)
    ∙ filled_by (λ change. change_row change) changes c.args.into.now count c.min-count.ensures
