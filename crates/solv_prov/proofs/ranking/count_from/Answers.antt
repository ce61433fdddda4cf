use Rattle.std.proofs.Common.{refl, rules}
use Rattle.solv_base.specs.Inner.Standings.{level}
use Rattle.solv_prov.proofs.Heights.{heights_rise, cut_here, cut_next}
use Rattle.solv_prov.proofs.ranking.count_from.Goals as goal

pub returns-then-here : goal.returns-then-here
returns-then-here c =
    cut_here c.args.pool.now c.args.want.now c.args.order.now (level c.args.standing) c.args.from
    (heights_rise c.evr_order_is_total.ensures.total c.standing_follows_the_order.ensures.rises c.args.pool.now c.args.want.now c.args.order.now c.requires.sorted)
    c.requires.from (search rules)

pub returns-then-behind : goal.returns-then-behind
returns-then-behind c =
    cut_next c.args.pool.now c.args.want.now c.args.order.now (level c.args.standing) c.args.from _
    (heights_rise c.evr_order_is_total.ensures.total c.standing_follows_the_order.ensures.rises c.args.pool.now c.args.want.now c.args.order.now c.requires.sorted)
    (search rules) refl (search rules) (search rules)
