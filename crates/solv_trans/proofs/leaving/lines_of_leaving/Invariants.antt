use Rattle.std.proofs.Common.{◌≡◌, ◌++◌}
use Rattle.solv_pool.specs.Prelude.{catalog_of}
use Rattle.solv_trans.specs.Changes.{line_of}
use Rattle.solv_trans.specs.Inner.Changes.{leaves}
use Rattle.solv_trans.specs.Inner.Joining.{is_marked}
use Rattle.solv_trans.proofs.Listing.{made_from}
use Rattle.solv_trans.proofs.leaving.lines_of_leaving.Given as goal

abbrev pub invariant-loop-number : goal.invariant-loop-number
invariant-loop-number l =
    l.lines.items ++ made_from (leaves (catalog_of l.task) (is_marked l.chosen)) (line_of (catalog_of l.task) (is_marked l.chosen)) l.number l.number-end
    ≡ made_from (leaves (catalog_of l.task) (is_marked l.chosen)) (line_of (catalog_of l.task) (is_marked l.chosen)) 0 l.number-end
