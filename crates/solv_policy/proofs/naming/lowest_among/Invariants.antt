use Rattle.std.proofs.Common.{◌≡◌, true, length, drop}
use Rattle.std.specs.Prelude.{filter, fold, min}
use Rattle.std.specs.List.{list_all}
use Rattle.solv_pool.specs.Prelude.{catalog_of, same_name, is_pack}
use Rattle.solv_policy.specs.Policy.{lowest_namesake}
use Rattle.solv_policy.proofs.naming.lowest_among.Given as goal

abbrev pub invariant-loop-other : goal.invariant-loop-other
invariant-loop-other l = record {
  left : fold min l.lowest (filter (same_name (catalog_of l.task) l.pack) (drop l.other-index l.list)) ≡ lowest_namesake (catalog_of l.task) l.list l.pack;
  within : list_all (is_pack (length l.task.universe.packages)) (drop l.other-index l.list) ≡ true;
}
