use Rattle.std.proofs.Common.{◌≡◌, true, drop, length}
use Rattle.std.specs.List.{list_all}
use Rattle.solv_pool.specs.Prelude.{tree, package_wise}
use Rattle.solv_clean.specs.Inner.Readiness.{need_below}
use Rattle.solv_leaving.proofs.starting.are_met_alone.Given as goal

abbrev pub invariant-loop-need : goal.invariant-loop-need
invariant-loop-need l = record {
  held : list_all (need_below (length l.pool.nodes)) (drop l.need-index l.needs) ≡ true;
  same : list_all (λ need. package_wise (tree l.pool.nodes need.dep)) (drop l.need-index l.needs) ≡ list_all (λ need. package_wise (tree l.pool.nodes need.dep)) l.needs;
}
