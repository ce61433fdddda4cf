use Rattle.std.proofs.Common.{◌≡◌, true, [], map, drop}
use Rattle.std.specs.List.{list_all}
use Rattle.solv_pool.specs.Prelude.{catalog_of, rule_with}
use Rattle.solv_rules.specs.Books.{is_bookable}
use Rattle.solv_rules.proofs.Weighed.{AreToWeigh}
use Rattle.solv_rules.proofs.weighing.weigh_rules.Given as goal

abbrev pub invariant-loop-rule : goal.invariant-loop-rule
invariant-loop-rule l = record {
  each : list_all (is_bookable (catalog_of l.task)) (map (rule_with []) (drop l.rule-index l.list)) ≡ true;
  left : AreToWeigh (catalog_of l.task) (map (rule_with []) (drop l.rule-index l.list)) (map (rule_with []) l.list) l.fn.draft l.draft;
}
