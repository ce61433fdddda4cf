use Rattle.std.proofs.Common.{ℕ, rules, arith}
use Rattle.std.specs.Prelude.{nat_lt}
use Rattle.std.proofs.lemmas.Bool.{ltb-true, ltb-false}
use Rattle.std.proofs.lemmas.List.Sorted.{IsPartitionedBy-ltb, IsPartitionPoint-from_clause}
use Rattle.solv_base.specs.Inner.Standings.{level}
use Rattle.solv_prov.specs.declared.ranking.Placed.{Placed}
use Rattle.solv_prov.specs.Inner.Ranking.{height}
use Rattle.solv_prov.proofs.Heights.{heights_rise}
use Rattle.solv_prov.proofs.ranking.count_lower.Goals as goal

pub returns : goal.returns
returns c =
    let high : Placed → ℕ = height c.args.pool.now c.args.want.now in
    let rise = heights_rise c.evr_order_is_total.ensures.total c.standing_follows_the_order.ensures.rises c.args.pool.now c.args.want.now c.args.order.now c.requires in
    let at = IsPartitionPoint-from_clause (λ x. nat_lt (high x) (level c.args.standing)) c.args.order.now c.partition_point.result c.partition_point.ensures.partitioned
    (IsPartitionedBy-ltb high c.args.order.now (level c.args.standing) rise) (λ a r f' k. search rules) in
    record {
      within = c.partition_point.ensures.bound;
      lower = λ k d lt. ltb-true _ _ (at.0 k d (omega arith) lt);
      rest = λ k d from lt. ltb-false _ _ (at.1 k d from lt);
    }
