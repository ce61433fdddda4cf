use Rattle.std.proofs.Common.{◌≡◌}
use Rattle.solv_prov.specs.Inner.Groups.{group_at}
use Rattle.solv_prov.specs.declared.ranking.Ranks.{Ranks}
use Rattle.solv_prov.specs.Inner.Ranking.{IsRanked}
use Rattle.solv_prov.proofs.Placing.{entered, holds_of_some}
use Rattle.solv_prov.proofs.ranking.rank_names.Goals as goal
use Rattle.solv_prov.proofs.ranking.rank_names.Goals.{then-is_long+in_ok-ranks+in-Some+in_ok-enter, then-is_long+in_ok-ranks+in_default, else-is_long}

pub loop-id-preserved : goal.loop-id-preserved
loop-id-preserved c = elim c.if-is_long.branch [
  | then-is_long+in_ok-ranks+in-Some+in_ok-enter w ↦ record {
    ranked =
        rw w.map-is
        (entered c.args.pool.now c.args.provides.now c.loop-id.map w.enter.new.map c.loop-id.id w.in-Some.ranks w.in_ok-enter.ensures
        (holds_of_some (λ (r : Ranks). r.provides.items ≡ group_at c.args.provides.now c.loop-id.id) w.in_ok-ranks.field-0 w.in-Some.ranks w.in-Some.is w.in_ok-ranks.ensures.listed)
        (holds_of_some (IsRanked c.args.pool.now) w.in_ok-ranks.field-0 w.in-Some.ranks w.in-Some.is w.in_ok-ranks.ensures.ranked) c.loop-id.invariant.ranked);
  }
  | then-is_long+in_ok-ranks+in_default w ↦ record { ranked = rw w.map-is c.loop-id.invariant.ranked }
  | else-is_long w ↦ record { ranked = rw w.map-is c.loop-id.invariant.ranked }
]
