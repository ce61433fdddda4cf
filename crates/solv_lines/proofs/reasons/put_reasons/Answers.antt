use Rattle.std.proofs.Common.{◌≡◌, ℕ, List, subst}
use Rattle.std.specs.Prelude.{OnOk}
use Rattle.solv_pool.specs.Prelude.{catalog_of}
use Rattle.solv_lines.specs.Inner.LineNames.{with_lines}
use Rattle.solv_lines.proofs.Coming.{reasons_same}
use Rattle.solv_lines.proofs.reasons.put_reasons.Goals as goal

pub returns : goal.returns
returns c =
    let P : List (List ℕ) → Type 0 = λ told. OnOk c.put_all.result (c.put_all.new.lines ≡ with_lines c.args.lines.now told) in
    subst P (reasons_same (catalog_of c.args.task.now) c.in_ok-reasons.reasons c.args.trail.now c.args.set.now c.in_ok-reasons.ensures) c.put_all.ensures
