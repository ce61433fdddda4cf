use Rattle.std.proofs.Common.{◌≡◌, ◌++◌, ◌&&◌, not}
use Rattle.solv_pool.specs.Prelude.{catalog_of}
use Rattle.solv_trans.specs.declared.kinds.Change.TheVariants.{Install}
use Rattle.solv_trans.specs.Moving.{comes}
use Rattle.solv_trans.specs.Inner.Joining.{is_marked}
use Rattle.solv_trans.proofs.Listing.{made_from}
use Rattle.solv_trans.proofs.transactions.add_installs.Given as goal

abbrev pub invariant-loop-number : goal.invariant-loop-number
invariant-loop-number l =
    l.lines.items ++ made_from (λ q. comes (catalog_of l.task) (is_marked l.chosen) q && not (is_marked l.brought q)) Install l.number l.number-end
    ≡ l.initial.lines.items ++ made_from (λ q. comes (catalog_of l.task) (is_marked l.chosen) q && not (is_marked l.brought q)) Install 0 l.number-end
