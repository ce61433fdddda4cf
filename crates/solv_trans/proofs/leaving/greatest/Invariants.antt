use Rattle.std.proofs.Common.{◌≡◌, true, None, length, drop}
use Rattle.std.specs.Prelude.{IfSome}
use Rattle.std.specs.List.{list_all}
use Rattle.solv_pool.specs.Prelude.{catalog_of, is_pack}
use Rattle.solv_trans.specs.Moving.{comes}
use Rattle.solv_trans.specs.Inner.Order.{greatest_from}
use Rattle.solv_trans.specs.Inner.Joining.{is_marked}
use Rattle.solv_trans.proofs.leaving.greatest.Given as goal

abbrev pub invariant-loop-pack : goal.invariant-loop-pack
invariant-loop-pack l = record {
  left : greatest_from (catalog_of l.task) (comes (catalog_of l.task) (is_marked l.chosen)) l.best (drop l.pack-index l.list) ≡ greatest_from (catalog_of l.task) (comes (catalog_of l.task) (is_marked l.chosen)) None l.list;
  within : list_all (is_pack (length l.task.universe.packages)) (drop l.pack-index l.list) ≡ true;
  held : IfSome l.best (λ q. is_pack (length l.task.universe.packages) q ≡ true);
}
