use Rattle.std.proofs.Common.{◌∙◌, sym}
use Rattle.solv_pool.specs.Prelude.{Catalog, catalog_of}
use Rattle.solv_clean.proofs.Reached.{marked_is}
use Rattle.solv_leaving.specs.Inner.Checking.{AreClosed}
use Rattle.solv_leaving.proofs.Left.{leaves_out}
use Rattle.solv_leaving.proofs.leaving.left_out.Goals as goal

pub returns : goal.returns
returns c =
    let catalog : Catalog = catalog_of c.args.task.now in
    let starts = c.in_ok-starts.starts.items in
    let left = c.in_ok-left.left.items in
    let seen = c.in_ok-are_closed.ensures c.if-not-branch.false in
    let closed : AreClosed catalog left starts = rw c.deref-6.ensures.value at (rw c.deref-5.ensures.value at seen) in
    leaves_out catalog c.args.task.now.flags c.args.task.now.jobs c.args.marks.now starts left c.in_ok-starts.ensures (closed.size ∙ c.in_ok-starts.ensures.size) closed.system
    (λ q h. closed.started q (sym (marked_is starts q) ∙ h)) closed.each
