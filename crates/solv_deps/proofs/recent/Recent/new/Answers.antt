use Rattle.std.proofs.Common.{◌≡◌, slice_get, ap, ◌∙◌, sym, subst}
use Rattle.std.specs.Prelude.{replicate}
use Rattle.solv_deps.specs.Inner.Recent.{IsRead}
use Rattle.solv_deps.proofs.Recents.{all_equal}
use Rattle.solv_deps.proofs.recent.Recent.new.Goals as goal

pub returns-in-Ok : goal.returns-in-Ok
returns-in-Ok c = λ pool n row at.
    let rows : c.in-Ok.rows.items ≡ replicate 8192 c.no_row.result = c.in-Ok.ensures.items_if_clones_equal (λ y h. cc) in
    subst (IsRead pool) (all_equal 8192 c.no_row.result n row (ap (λ xs. slice_get xs n) (sym rows) ∙ at)) (c.no_row.ensures pool)
