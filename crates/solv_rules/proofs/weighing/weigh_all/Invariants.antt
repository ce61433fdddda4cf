use Rattle.std.proofs.Common.{◌≡◌, ◌+◌, ◌-◌, true}
use Rattle.std.specs.Prelude.{flat_map}
use Rattle.std.specs.List.{list_all, range_with_len}
use Rattle.solv_pool.specs.Prelude.{catalog_of, package_rules}
use Rattle.solv_pool.specs.Inner.HardRules.{rules_of_package}
use Rattle.solv_rules.specs.Books.{first_fault, is_bookable}
use Rattle.solv_rules.specs.Inner.Drafting.{IsCounted}
use Rattle.solv_rules.proofs.weighing.weigh_all.Given as goal

abbrev pub invariant-loop-before : goal.invariant-loop-before
invariant-loop-before l = record {
  draft : IsCounted l.draft;
  each : list_all (is_bookable (catalog_of l.task)) (flat_map (rules_of_package (catalog_of l.task) l.marks) (range_with_len (l.before + 1) (l.count - l.before))) ≡ true;
  due : first_fault (catalog_of l.task) l.draft.words (flat_map (rules_of_package (catalog_of l.task) l.marks) (range_with_len (l.before + 1) (l.count - l.before))) ≡ first_fault (catalog_of l.task) 0 (package_rules (catalog_of l.task) l.marks);
}
